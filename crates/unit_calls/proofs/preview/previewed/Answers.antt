use Rattle.std.proofs.Common.{List, map, length, sym, ◌∙◌, ap}
use Rattle.kernel.specs.declared.counts.Counts.{Counts}
use Rattle.kernel.specs.Lives.{kept_of, life_of, past_of}
use Rattle.kernel.specs.StandsFor.{StandsAt}
use Rattle.track_picture.specs.Stores.{segment_stores}
use Rattle.track_picture.specs.declared.closings.Closing.{Closing}
use Rattle.unit_calls.specs.Previews.{group_of, places_of}
use Rattle.unit_calls.proofs.preview.previewed.Goals as goal

pub returns-clause-describes : goal.returns-clause-describes
returns-clause-describes c = λ events knows.
    let stands : StandsAt segment_stores c.args.state.now (past_of events) = record {
      life_is = knows.life_is;
      kept_is = ap (λ (n : Counts). kept_of n (life_of events)) (sym knows.counts_are);
    } in
    let closings = c.in_ok-closings.ensures.closings (past_of events) stands in
    record {
      groups = c.places_of.ensures ∙ ap (λ (all : List Closing). places_of (map group_of all)) closings;
      count = c.count_of.ensures ∙ ap (λ (all : List Closing). length all) closings;
      telegram = c.telegram_of-telegram.ensures events knows;
    }
