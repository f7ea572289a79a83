use Rattle.std.proofs.Common.{◌≡◌, ℕ, List, Bool, true, false, Option, Some, None, Result, Ok, Err, sym, ◌∙◌}
use Rattle.std.specs.Prelude.{◌≢◌, ⊤, IfErr}
use Rattle.relayed_unit.specs.declared.errors.PrepareError.{PrepareError}
use Rattle.relayed_unit.specs.declared.errors.PrepareError.TheVariants as a_prepare
use Rattle.relayed_unit.specs.declared.powering_up.Going.{Going}
use Rattle.relayed_unit.specs.declared.powering_up.Going.TheVariants as a_going
use Rattle.unit_start.specs.Answers.{wants_memory}
use Rattle.unit_start.specs.declared.errors.OpenError.{OpenError}
use Rattle.unit_start.specs.declared.errors.OpenError.TheVariants as an_open
use Rattle.unit_calls.specs.Contents.{unit_in}
use Rattle.unit_calls.specs.Goings.{GoesOn, IsLeftOn}
use Rattle.unit_calls.specs.Handles.{OnHandle, Prepares}
use Rattle.unit_calls.specs.Requests.{IfElse}
use Rattle.unit_calls.specs.Sectors.{ProvidesOn}
use Rattle.unit_calls.specs.Statuses.{of_open, of_prepare}
use Rattle.unit_calls.specs.declared.handle.Content.{Content}
use Rattle.unit_calls.specs.declared.handle.Content.TheVariants as a_content
use Rattle.unit_calls.specs.declared.handle.Opened.{Opened}
use Rattle.unit_calls.specs.declared.status.Status.{Status}
use Rattle.unit_calls.specs.declared.status.Status.TheVariants as a_status
use Rattle.unit_calls.proofs.Alongside.{either_way}
use Rattle.unit_calls.proofs.laws.only_begin_wants_memory.Goals as goal

abbrev Other : Status → Type 0
Other status = status ≢ a_status.OpenNoMemory

refused : (e : OpenError) (status : Status) → wants_memory e ≡ false → status ≡ of_open e → Other status
refused an_open.DeviceFault status ok its is = cc
refused an_open.NotFormatted status ok its is = cc
refused an_open.Damaged status ok its is = cc
refused an_open.NoMemory status ok its is = cc
refused an_open.WornOut status ok its is = cc

left : (reported : Result Going OpenError) (after : Option Content) (status : Status) → IfErr reported (λ e. wants_memory e ≡ false) → IsLeftOn reported after status → Other status
left (Ok (a_going.Wants current)) after status ok its is = (let done = its.0 in cc)
left (Ok (a_going.Open up)) after status ok its is = (let done = its.0 in cc)
left (Err e) after status ok its is = refused e status ok its.0 is

prepared : (reported : Result ⊤ PrepareError) (status : Status) → status ≡ of_prepare reported → Other status
prepared (Ok x) status its is = cc
prepared (Err a_prepare.Failed) status its is = cc
prepared (Err a_prepare.RequestsOwed) status its is = cc
prepared (Err a_prepare.WornOut) status its is = cc
prepared (Err a_prepare.SectorWanted) status its is = cc

done_or_out : (A B : Type 0) (b : Bool) (status : Status) → IfElse b ((status ≡ a_status.Done) × A) ((status ≡ a_status.OutOfRange) × B) → Other status
done_or_out A B true status its is = (let done = its.0 in cc)
done_or_out A B false status its is = (let out = its.0 in cc)

on_unit : (sector : ℕ) (bytes : List ℕ) (before after : Option Opened) (status : Status) → OnHandle before after status (ProvidesOn sector bytes) → Other status
on_unit sector bytes None None status its is = cc
on_unit sector bytes None (Some after) status its is = its
on_unit sector bytes (Some before) None status its is = its
on_unit sector bytes (Some before) (Some after) status (given, provided, its, then) is =
    either_way _ _ _ ⊥
    (λ (go : Prepares given after status). prepared go.0 status go.1 is)
    (λ (rest : (status ≡ provided) × (after ≡ given)). done_or_out _ _ _ provided its (sym rest.0 ∙ is))
    then

pub returns : goal.returns
returns c sector bytes None after status its is = on_unit sector bytes None (unit_in after) status its.0 is
returns c sector bytes (Some a_content.Nothing) after status its is = on_unit sector bytes None (unit_in after) status its.0 is
returns c sector bytes (Some (a_content.Unit opened)) after status its is = on_unit sector bytes (Some opened) (unit_in after) status its.0 is
returns c sector bytes (Some (a_content.PowerUp opening)) after status (given, answer, its, then) is =
    either_way _ _ _ ⊥
    (λ (go : GoesOn given after status). left go.0 after status go.1.memory go.2 is)
    (λ (rest : (status ≡ answer) × (after ≡ Some (a_content.PowerUp given))). done_or_out _ _ _ answer its (sym rest.0 ∙ is))
    then
