-- The rows of a layout, one after another.
use Rattle.std.proofs.Common.{◌≡◌, ℕ, suc, ◌+◌, ◌-◌, ◌<◌, ◌≤◌, true, false, nat_lt, List, [], ◌∷◌, Result, Ok, Err, refl, sym, ap, ◌∙◌, arith}
use Rattle.track_packets.specs.Fields.{Reported, then_read, times, deeper, read_row, read_rows}
use Rattle.track_packets.specs.declared.fault.FieldFault.{FieldFault}
use Rattle.track_packets.specs.Reading.{Fails, Gives}
use Rattle.track_packets.specs.declared.reading.FieldsError.{FieldsError}
use Rattle.track_packets.specs.declared.reading.FieldsError.TheVariants.{NoMemory, NotThere, Refused, Fault}
use Rattle.track_packets.specs.declared.row.Row.{Row}

-- ---- so many times

pub times_step : (f : Reported → Result Reported FieldFault) (count i : ℕ) (t next : Reported) (total : Result Reported FieldFault)
    → i < count → f t ≡ Ok next → times (count - i) f t ≡ total → times (count - (i + 1)) f next ≡ total
unfolding times
times_step f count i t next total lt e so_far =
    let k : count - i ≡ suc (count - (i + 1)) = omega arith in
    let one : times (count - i) f t ≡ times (count - (i + 1)) f next = rw (k, e) refl in
    sym one ∙ so_far

pub times_ends : (f : Reported → Result Reported FieldFault) (count i : ℕ) (t : Reported) (d : FieldFault) (total : Result Reported FieldFault)
    → i < count → f t ≡ Err d → times (count - i) f t ≡ total → total ≡ Err d
unfolding times
times_ends f count i t d total lt e so_far =
    let k : count - i ≡ suc (count - (i + 1)) = omega arith in
    let one : times (count - i) f t ≡ Err d = rw (k, e) refl in
    sym so_far ∙ one

pub times_done : (f : Reported → Result Reported FieldFault) (count i : ℕ) (t : Reported) (total : Result Reported FieldFault)
    → count ≤ i → times (count - i) f t ≡ total → total ≡ Ok t
unfolding times
times_done f count i t total le so_far =
    let k : count - i ≡ 0 = omega arith in
    let one : times (count - i) f t ≡ Ok t = rw k refl in
    sym so_far ∙ one

-- ---- rows

pub no_levels : (levels depth : ℕ) (rows : List Row) (t : Reported) → levels ≡ 0 → read_rows levels depth rows t ≡ Ok t
unfolding read_rows
no_levels levels depth rows t e = rw e refl

pub no_rows : (levels depth : ℕ) (t : Reported) → 0 < levels → read_rows levels depth [] t ≡ Ok t
unfolding read_rows
no_rows levels depth t some =
    let k : levels ≡ suc (levels - 1) = omega arith in
    rw k refl

pub row_passed : (levels depth : ℕ) (row : Row) (rows : List Row) (t : Reported) → 0 < levels → nat_lt depth row.depth ≡ true
    → read_rows levels depth (row ∷ rows) t ≡ read_rows levels depth rows t
unfolding read_rows
row_passed levels depth row rows t some e =
    let k : levels ≡ suc (levels - 1) = omega arith in
    rw (k, e) refl

-- what a row of this depth gives
pub row_here : (levels below depth : ℕ) (row : Row) (rows : List Row) (t : Reported) → levels ≡ suc below → nat_lt depth row.depth ≡ false
    → read_rows levels depth (row ∷ rows) t
    ≡ then_read (read_row row t) (λ r. then_read (times r.1 (λ s. read_rows below (depth + 1) (deeper depth rows) s) r.0) (λ s. read_rows levels depth rows s))
unfolding read_rows
row_here levels below depth row rows t k e = rw (k, e) refl

pub row_fails : (levels below depth : ℕ) (row : Row) (rows : List Row) (t : Reported) (d : FieldFault) → levels ≡ suc below → nat_lt depth row.depth ≡ false
    → read_row row t ≡ Err d → read_rows levels depth (row ∷ rows) t ≡ Err d
row_fails levels below depth row rows t d k e read =
    row_here levels below depth row rows t k e
    ∙ ap (λ x. then_read x (λ r. then_read (times r.1 (λ s. read_rows below (depth + 1) (deeper depth rows) s) r.0) (λ s. read_rows levels depth rows s))) read

pub block_fails : (levels below depth : ℕ) (row : Row) (rows : List Row) (t next : Reported) (count : ℕ) (d : FieldFault) → levels ≡ suc below → nat_lt depth row.depth ≡ false
    → read_row row t ≡ Ok (next, count) → times count (λ s. read_rows below (depth + 1) (deeper depth rows) s) next ≡ Err d
    → read_rows levels depth (row ∷ rows) t ≡ Err d
block_fails levels below depth row rows t next count d k e read block =
    row_here levels below depth row rows t k e
    ∙ ap (λ x. then_read x (λ r. then_read (times r.1 (λ s. read_rows below (depth + 1) (deeper depth rows) s) r.0) (λ s. read_rows levels depth rows s))) read
    ∙ ap (λ x. then_read x (λ s. read_rows levels depth rows s)) block

pub row_read : (levels below depth : ℕ) (row : Row) (rows : List Row) (t next last : Reported) (count : ℕ) → levels ≡ suc below → nat_lt depth row.depth ≡ false
    → read_row row t ≡ Ok (next, count) → times count (λ s. read_rows below (depth + 1) (deeper depth rows) s) next ≡ Ok last
    → read_rows levels depth (row ∷ rows) t ≡ read_rows levels depth rows last
row_read levels below depth row rows t next last count k e read block =
    row_here levels below depth row rows t k e
    ∙ ap (λ x. then_read x (λ r. then_read (times r.1 (λ s. read_rows below (depth + 1) (deeper depth rows) s) r.0) (λ s. read_rows levels depth rows s))) read
    ∙ ap (λ x. then_read x (λ s. read_rows levels depth rows s)) block

-- ---- what a function that says fields returned

pub is_deeper : (depth row : ℕ) → depth < row → nat_lt depth row ≡ true
is_deeper depth row lt = grind (arith, lt)

pub is_here : (depth row : ℕ) → row ≤ depth → nat_lt depth row ≡ false
is_here depth row le = grind (arith, le)

pub along : {A B : Type 0} (view : A → B) (answer : Result A FieldsError) (given same : Result B FieldFault) → given ≡ same → Gives view answer same → Gives view answer given
along view answer given same e g = rw e g

pub failed : {B D : Type 0} (error : FieldsError) (given : Result B FieldFault) (same : Result D FieldFault)
    → ((f : FieldFault) → given ≡ Err f → same ≡ Err f) → Fails error given → Fails error same
failed NoMemory given same k g = tt
failed NotThere given same k g = g
failed (Refused e) given same k g = g
failed (Fault f) given same k g = k f g
