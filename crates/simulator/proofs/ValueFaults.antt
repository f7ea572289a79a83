-- The fault of a value is never NotJson.
use Rattle.std.proofs.Common.{ℕ, ◌==◌, ◌&&◌, ◌+◌, nat_le, ℤ, pos, int_le, length, codes, slice_get, List, [], ◌∷◌, Bool, true, false, if◌then◌else◌, Option, Some, None, option_and_then, Result, Ok, Err}
use Rattle.serde_json.specs.Data.{Data}
use Rattle.serde_json.specs.Find.{get, as_str, as_bool}
use Rattle.hex.specs.Hex.{decode_of}
use Rattle.hex.specs.declared.error.FromHexError.{FromHexError}
use Rattle.simulator.specs.Course.{Run, start, taken}
use Rattle.simulator.specs.Limits.{farthest_back, farthest}
use Rattle.simulator.specs.Passing.{passed}
use Rattle.simulator.specs.declared.step_kinds.StepKind.{StepKind}
use Rattle.simulator.specs.declared.balise.Balise.{Balise}
use Rattle.driver.specs.declared.action.Action.{Action}
use Rattle.driver.specs.declared.action.Action.TheVariants.{Start, ChooseShunting, LeaveShunting, Override, CloseDesk}
use Rattle.mode_table.specs.Numbers.{level_by, cold_by}
use Rattle.driver.specs.declared.action_kind.ActionKind.{ActionKind}
use Rattle.driver.specs.declared.action_kind.ActionKind.TheVariants as a_kind
use Rattle.driver.specs.Numbers.{action_by, item_by, reason_by}
use Rattle.simulator.specs.Values.{◌>>=◌, shaped, given, whole, within, known, numbered, hex_bytes, bytes_in, whole_item, text_item, items_at}
use Rattle.simulator.specs.Shapes.{has_members, list_in}
use Rattle.simulator.specs.Groups.{whole_at, are_texts, laid_one, laid, group, groups}
use Rattle.simulator.specs.Actions.{is_identity, level, confirmed, acknowledged, identity, entered_identity, lone_value, entered_number, brakes, train, entered_train, chosen_level, confirmed_item, acknowledged_kind, bare, or_shape, by_kind, action}
use Rattle.simulator.specs.Steps.{drive, telegram, clock, driver, flush, or_else, by_key, step_of}
use Rattle.simulator.specs.Lives.{lived, steps_in, has_keys, cold_value, cold_of, life_in}
use Rattle.simulator.specs.declared.fault.ScenarioFault.{ScenarioFault}
use Rattle.simulator.specs.declared.fault.ScenarioFault.TheVariants.{NotJson, Shape, OutOfRange, BadHex, NoMemory}

abbrev pub IsOfValue : ScenarioFault → Type 0
IsOfValue NotJson = ⊥
IsOfValue Shape = Unit {0}
IsOfValue OutOfRange = Unit {0}
IsOfValue BadHex = Unit {0}
IsOfValue NoMemory = Unit {0}

-- its fault, if it has one, is one of a value
abbrev pub HasOfValue : {A : Type 0} → Result A ScenarioFault → Type 0
HasOfValue (Ok x) = Unit {0}
HasOfValue (Err fault) = IsOfValue fault

pub record Fits {A : Type 0} (r : Result A ScenarioFault) : Type 0 where
  pub fits : HasOfValue r

of_ok : {A : Type 0} (x : A) → Fits (Ok x)
of_ok x = record { fits = tt }

of_err : {A : Type 0} (fault : ScenarioFault) → IsOfValue fault → Fits {A = A} (Err fault)
of_err fault is = record { fits = is }

-- ---- one after another, and by cases

bind : {A B : Type 0} (r : Result A ScenarioFault) (f : A → Result B ScenarioFault) → Fits r → ((x : A) → Fits (f x)) → Fits (r >>= f)
bind (Ok x) f first rest = rest x
bind (Err fault) f first rest = record { fits = first.fits }

either : {A : Type 0} (b : Bool) (x y : Result A ScenarioFault) → Fits x → Fits y → Fits (if b then x else y)
either true x y one other = one
either false x y one other = other

-- ---- values

of_shaped : {A : Type 0} (o : Option A) → Fits (shaped o)
of_shaped (Some x) = of_ok x
of_shaped None = of_err Shape tt

of_given : (b : Bool) (fault : ScenarioFault) → IsOfValue fault → Fits (given b fault)
of_given true fault is = of_ok tt
of_given false fault is = of_err fault is

of_within : (low high : ℕ) (z : ℤ) → Fits (within low high z)
unfolding within
of_within low high z = either (int_le (pos low) z && int_le z (pos high)) _ _ (of_ok _) (of_err OutOfRange tt)

of_known : {A : Type 0} (o : Option A) → Fits (known o)
of_known (Some x) = of_ok x
of_known None = of_err OutOfRange tt

of_numbered : {A : Type 0} (value : ℕ → Option A) (z : ℤ) → Fits (numbered value z)
of_numbered value z = bind _ _ (of_within 0 255 z) (λ n. of_known (value n))

of_hex : (r : Result (List ℕ) FromHexError) → Fits (hex_bytes r)
of_hex (Ok bytes) = of_ok bytes
of_hex (Err fault) = of_err BadHex tt

of_bytes : (text : List ℕ) → Fits (bytes_in text)
unfolding bytes_in
of_bytes text = bind _ _ (of_hex (decode_of text)) (λ bytes. bind _ _ (of_given _ OutOfRange tt) (λ u. of_ok _))

-- a whole number, and a text, at a place in a list
of_whole : (ds : List Data) (n : ℕ) → Fits (whole_item ds n)
unfolding whole_item
of_whole ds n = of_shaped (option_and_then whole (slice_get ds n))

of_text : (ds : List Data) (n : ℕ) → Fits (text_item ds n)
of_text ds n = of_shaped (option_and_then as_str (slice_get ds n))

-- the items of a list at a key
of_items : (key : List ℕ) (d : Data) → Fits (items_at key d)
unfolding items_at
of_items key d = bind _ _ (of_shaped (get key d)) (λ v. of_shaped (list_in v))

-- ---- groups

of_laid_one : (at : ℕ) (d : Data) (bs : List Balise) → Fits (laid_one at d bs)
unfolding laid_one
of_laid_one at d bs = bind _ _ (of_shaped (as_str d)) (λ text. bind _ _ (of_bytes text) (λ bytes. of_ok _))

of_laid : (at spacing : ℕ) (ds : List Data) (bs : List Balise) → Fits (laid at spacing ds bs)
of_laid at spacing [] bs = of_ok bs
of_laid at spacing (d ∷ ds) bs = bind _ _ (of_laid_one at d bs) (of_laid (at + spacing) spacing ds)

of_group : (d : Data) (bs : List Balise) → Fits (group d bs)
unfolding group
of_group d bs =
    bind _ _ (of_given (has_members 3 d) Shape tt) (λ u. bind _ _ (of_shaped (whole_at (codes "at") d)) (λ at. bind _ _ (of_shaped (whole_at (codes "spacing") d)) (λ spacing.
    bind _ _ (of_items (codes "balises") d) (λ items.
    bind _ _ (of_given (nat_le 1 (length items) && nat_le (length items) 8 && are_texts items) Shape tt) (λ v.
    bind _ _ (of_within 1 100_000_000 at) (λ first. bind _ _ (of_within 1 1_200 spacing) (λ apart. of_laid first apart items bs)))))))

of_groups : (ds : List Data) (bs : List Balise) → Fits (groups ds bs)
of_groups [] bs = of_ok bs
of_groups (d ∷ ds) bs = bind _ _ (of_group d bs) (of_groups ds)

-- ---- actions

of_level : (z : ℤ) → Fits (level z)
of_level z = of_numbered level_by z

of_confirmed : (z : ℤ) → Fits (confirmed z)
of_confirmed z = of_numbered item_by z

of_acknowledged : (z : ℤ) → Fits (acknowledged z)
of_acknowledged z = of_numbered reason_by z

of_identity : (text : List ℕ) → Fits (identity text)
of_identity text = either (is_identity text) _ _ (of_ok _) (of_err OutOfRange tt)

of_entered_identity : (ds : List Data) → Fits (entered_identity ds)
unfolding entered_identity
of_entered_identity ds = bind _ _ (of_given (length ds == 2) Shape tt) (λ u. bind _ _ (of_text ds 1) of_identity)

of_lone_value : (ds : List Data) → Fits (lone_value ds)
unfolding lone_value
of_lone_value ds = bind _ _ (of_given (length ds == 2) Shape tt) (λ u. of_whole ds 1)

of_entered_number : (ds : List Data) → Fits (entered_number ds)
unfolding entered_number
of_entered_number ds = bind _ _ (of_lone_value ds) (λ z. bind _ _ (of_within 0 99_999_999 z) (λ number. of_ok _))

of_brakes : (rate time : ℤ) → Fits (brakes rate time)
of_brakes rate time = bind _ _ (of_within 1 300 rate) (λ a. bind _ _ (of_within 0 10_000 time) (λ b. of_ok _))

of_train : (cm mph rate time kind : ℤ) → Fits (train cm mph rate time kind)
unfolding train
of_train cm mph rate time kind =
    bind _ _ (of_within 1 409_500 cm) (λ a. bind _ _ (of_within 1 600_000 mph) (λ b. bind _ _ (of_brakes rate time) (λ c. bind _ _ (of_within 0 15 kind) (λ d. of_ok _))))

of_entered_train : (ds : List Data) → Fits (entered_train ds)
unfolding entered_train
of_entered_train ds =
    bind _ _ (of_given (length ds == 6) Shape tt) (λ u. bind _ _ (of_whole ds 1) (λ cm. bind _ _ (of_whole ds 2) (λ mph. bind _ _ (of_whole ds 3) (λ rate.
    bind _ _ (of_whole ds 4) (λ time. bind _ _ (of_whole ds 5) (λ kind. of_train cm mph rate time kind))))))

of_chosen_level : (ds : List Data) → Fits (chosen_level ds)
unfolding chosen_level
of_chosen_level ds = bind _ _ (of_lone_value ds) (λ z. bind _ _ (of_level z) (λ l. of_ok _))

of_confirmed_item : (ds : List Data) → Fits (confirmed_item ds)
unfolding confirmed_item
of_confirmed_item ds = bind _ _ (of_lone_value ds) (λ z. bind _ _ (of_confirmed z) (λ l. of_ok _))

of_acknowledged_kind : (ds : List Data) → Fits (acknowledged_kind ds)
unfolding acknowledged_kind
of_acknowledged_kind ds = bind _ _ (of_lone_value ds) (λ z. bind _ _ (of_acknowledged z) (λ l. of_ok _))

of_bare : (a : Action) (ds : List Data) → Fits (bare a ds)
unfolding bare
of_bare a ds = bind _ _ (of_given (length ds == 1) Shape tt) (λ u. of_ok a)

of_or_shape : {A : Type 0} (r : Result A ScenarioFault) → Fits (or_shape r)
of_or_shape (Ok x) = of_ok x
of_or_shape (Err fault) = of_err Shape tt

of_kind : (kind : ActionKind) (ds : List Data) → Fits (by_kind kind ds)
unfolding by_kind
of_kind a_kind.EnterIdentity ds = of_entered_identity ds
of_kind a_kind.EnterRunningNumber ds = of_entered_number ds
of_kind a_kind.EnterTrainData ds = of_entered_train ds
of_kind a_kind.ChooseLevel ds = of_chosen_level ds
of_kind a_kind.Confirm ds = of_confirmed_item ds
of_kind a_kind.Start ds = of_bare Start ds
of_kind a_kind.ChooseShunting ds = of_bare ChooseShunting ds
of_kind a_kind.LeaveShunting ds = of_bare LeaveShunting ds
of_kind a_kind.Override ds = of_bare Override ds
of_kind a_kind.Acknowledge ds = of_acknowledged_kind ds
of_kind a_kind.CloseDesk ds = of_bare CloseDesk ds

of_action : (ds : List Data) → Fits (action ds)
unfolding action
of_action ds = bind _ _ (of_whole ds 0) (λ code. bind _ _ (of_or_shape (numbered action_by code)) (λ kind. of_kind kind ds))

-- ---- steps

of_drive : (v : Data) → Fits (drive v)
unfolding drive
of_drive v =
    bind _ _ (of_shaped (list_in v)) (λ items. bind _ _ (of_given (length items == 2) Shape tt) (λ u. bind _ _ (of_whole items 0) (λ cm. bind _ _ (of_whole items 1) (λ mph.
    bind _ _ (of_given (int_le farthest_back cm && int_le cm (pos farthest)) OutOfRange tt) (λ w. bind _ _ (of_within 0 600_000 mph) (λ speed. of_ok _))))))

of_telegram : (v : Data) → Fits (telegram v)
unfolding telegram
of_telegram v = bind _ _ (of_shaped (as_str v)) (λ text. bind _ _ (of_bytes text) (λ bytes. of_ok _))

of_clock : (v : Data) → Fits (clock v)
unfolding clock
of_clock v = bind _ _ (of_shaped (whole v)) (λ z. bind _ _ (of_within 0 _ z) (λ ms. of_ok _))

of_driver : (v : Data) → Fits (driver v)
unfolding driver
of_driver v = bind _ _ (of_shaped (list_in v)) (λ items. bind _ _ (of_action items) (λ a. of_ok _))

of_flush : (v : Data) → Fits (flush v)
unfolding flush
of_flush v = bind _ _ (of_shaped (as_bool v)) (λ wanted. bind _ _ (of_given wanted Shape tt) (λ u. of_ok _))

or_other : (o : Option Data) (this : Data → Result StepKind ScenarioFault) (other : Result StepKind ScenarioFault) → ((v : Data) → Fits (this v)) → Fits other → Fits (or_else o this other)
or_other (Some v) this other one rest = one v
or_other None this other one rest = rest

of_key : (d : Data) → Fits (by_key d)
unfolding by_key
of_key d =
    or_other (get (codes "drive") d) drive _ of_drive (or_other (get (codes "telegram") d) telegram _ of_telegram (or_other (get (codes "clock") d) clock _ of_clock
    (or_other (get (codes "driver") d) driver _ of_driver (or_other (get (codes "flush") d) flush _ of_flush (of_err Shape tt)))))

of_step_kind : (d : Data) → Fits (step_of d)
unfolding step_of
of_step_kind d = either (has_members 1 d) _ _ (of_key d) (of_err Shape tt)

-- ---- a life

of_lived : (ahead : ℤ → ℕ → List Balise) (ds : List Data) (r : Run) → Fits (lived ahead ds r)
of_lived ahead [] r = of_ok r
of_lived ahead (d ∷ ds) r = bind _ _ (of_step_kind d) (λ step. of_lived ahead ds (taken ahead step r))

of_steps : (ahead : ℤ → ℕ → List Balise) (ds : List Data) → Fits (steps_in ahead ds)
unfolding steps_in
of_steps ahead ds = bind _ _ (of_lived ahead ds start) (λ run. of_ok _)

of_cold_value : (z : ℤ) → Fits (cold_value z)
of_cold_value z = of_numbered cold_by z

of_cold : (o : Option Data) → Fits (cold_of o)
unfolding cold_of
of_cold None = of_ok _
of_cold (Some v) = bind _ _ (of_shaped (whole v)) of_cold_value

pub of_life : (d : Data) → Fits (life_in d)
unfolding life_in
of_life d =
    bind _ _ (of_given (has_keys d) Shape tt) (λ u. bind _ _ (of_cold (get (codes "cold") d)) (λ cold. bind _ _ (of_items (codes "groups") d) (λ laid. bind _ _ (of_groups laid []) (λ balises.
    bind _ _ (of_items (codes "steps") d) (λ items. bind _ _ (of_steps (passed balises) items) (λ steps. of_ok _))))))
