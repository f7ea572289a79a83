-- A mode that deletes an acknowledgement leaves nothing of it, whatever it was.
use Rattle.std.proofs.Common.{◌≡◌, refl}
use Rattle.areas.specs.declared.acknowledgement.Acknowledgement.{Acknowledgement}
use Rattle.areas.specs.declared.acknowledgement.Acknowledgement.TheVariants as state
use Rattle.areas.specs.Acknowledging.{Happening, after}

pub deleted : (before : Acknowledgement) → state.Nothing ≡ after Happening.Deleted before
deleted state.Nothing = refl
deleted state.Requested = refl
deleted state.Done = refl
deleted (state.Owed since) = refl
