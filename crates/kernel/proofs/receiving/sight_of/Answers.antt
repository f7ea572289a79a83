use Rattle.std.proofs.Common.{◌≡◌, ap, sym, refl, ◌∙◌}
use Rattle.events.specs.declared.input.Input.{Input}
use Rattle.events.specs.declared.input.Input.TheVariants.{Telegram}
use Rattle.track_picture.specs.StandsFor.{KnownTrack}
use Rattle.kernel.specs.Brake.{stands, backward_by}
use Rattle.kernel.specs.StandsFor.{reading_of}
use Rattle.mode_control.specs.Life.{Life}
use Rattle.mode_control.specs.Sentences.{entry_of}
use Rattle.kernel.proofs.receiving.sight_of.Goals as goal

reading_is : (life : Life) (input : Input) → (entry_of life input).track.initial.reading ≡ reading_of input
reading_is life (Telegram bytes) = refl
reading_is life other = refl

pub returns : goal.returns
returns g c life s allowed =
    let input = c.args.input.now in
    let track = s.track_is.parts_are in
    let reading = c.reading_of-reading.ensures ∙ sym (reading_is life input) in
    let happened = c.happened-happened.ensures ∙ ap (λ t. t.parts.happened) c.track.ensures ∙ ap (λ (k : KnownTrack). k.happened) track in
    let speed = c.speed.ensures ∙ ap (λ t. t.parts.speed) c.track-2.ensures ∙ ap (λ (k : KnownTrack). k.speed) track in
    let stood = c.stands.ensures ∙ ap stands reading in
    let rolled = c.backward_by.ensures ∙ (λ i. backward_by (happened i).overrun (reading i)) in
    λ i. record { stands = stood i; backward = rolled i; service_brake_requested = (happened i).requested.service; speed = speed i; limit = allowed i }
