-- The brake table: the rows before one that holds, and what is so after the last event.
use Rattle.std.proofs.Common.{◌≡◌, ℕ, ◌+◌, ◌<◌, Bool, true, false, List, [], ◌∷◌, cond, refl, ap, sym, ◌∙◌, inl, inr, arith}
use Rattle.std.specs.List.{list_any}
use Rattle.std.proofs.lemmas.Bool.{lt-ltb, or_left, or_right}
use Rattle.authority.specs.Laws.{IsAmong}
use Rattle.events.specs.declared.output.Brake.{Brake}
use Rattle.events.specs.declared.output.Brake.TheVariants as brake
use Rattle.track_picture.specs.History.{speed_of}
use Rattle.mode_control.specs.Entry.{SupervisionEntry}
use Rattle.mode_control.specs.History.{tracks}
use Rattle.mode_control.specs.Life.{Life}
use Rattle.speed_supervision.specs.Limit.{limit}
use Rattle.kernel.specs.Brake.{Snapshot, is_above_limit_by, has_started}

-- a row for the emergency brake changes nothing where a later one commands it
pub or_before : (holds : Bool) (later : Brake) → later ≡ brake.Emergency → cond holds brake.Emergency later ≡ brake.Emergency
or_before true later h = refl
or_before false later h = h

pub any_of : {A : Type 0} (test : A → Bool) (xs : List A) (x : A) → IsAmong x xs → test x ≡ true → list_any test xs ≡ true
any_of test [] x there h = absurd there
any_of test (y ∷ ys) x (inl same) h = or_left (test y) (list_any test ys) (sym (ap test same) ∙ h)
any_of test (y ∷ ys) x (inr later) h = or_right (test y) (list_any test ys) (any_of test ys x later h)

-- the newest event is among those since any; a life without events has the speed 0
module _ (margin : ℕ) (ends : Snapshot → Bool) (life : Life) where
  abbrev with : List SupervisionEntry → Life
  with entries = record life { entries = entries }

  pub starting_now : (entries : List SupervisionEntry) → limit (with entries) + margin < speed_of (tracks entries) →
      has_started (is_above_limit_by margin) ends (with entries) ≡ true
  starting_now [] fast = absurd (let none : speed_of (tracks []) ≡ 0 = refl in omega (arith, none, fast))
  starting_now (event ∷ earlier) fast =
      let now : Life = with (event ∷ earlier) in
      or_left (is_above_limit_by margin (record { event = event; life = now })) _ (lt-ltb (limit now + margin) (speed_of (tracks (event ∷ earlier))) fast)
