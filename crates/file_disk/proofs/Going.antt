-- How a file in memory goes on from moment to moment.
use Rattle.std.proofs.Common.{◌≡◌, ◌⊎◌, inl, inr, ⊎_elim, ℕ, ◌+◌, ◌-◌, ◌*◌, ◌/◌, ◌%◌, ◌<◌, ◌≤◌, Bool, true, false, List, [], ◌∷◌, ◌++◌, length, take, drop, refl, sym, ◌∙◌, ap, subst, append_assoc, arith, length-append, length-drop, Option, Some}
use Rattle.std.specs.Prelude.{slice_get, ◌||◌}
use Rattle.std.proofs.lemmas.Bool.{cases_lt, cases_Bool}
use Rattle.std.proofs.lemmas.Bool.Decides.{nat_tests}
use Rattle.std.proofs.lemmas.List.{drop-drop, drop-take, take-append-le, take-take, length-take, length-take-le, get_or_append_left, get_or_push}
use Rattle.std.proofs.lemmas.List.Folds.{list_any-append}
use Rattle.std.proofs.lemmas.Option.{slice_get-get_or}
use Rattle.std.proofs.Math.Seq.{drop-append-add}
use Rattle.disk.specs.State.{now, Outside, SameOutside, Touches, AreOpen, IsSynced, sector_of}
use Rattle.file_disk.specs.Files.{FileMoment, FileState, bytes_of, medium_of, whole_disk, overwritten, WritesOnly}
use Rattle.file_disk.proofs.Parts.{length-overwritten}
use Rattle.file_disk.specs.declared.moment.Part.{Part}
use Rattle.file_disk.specs.declared.moment.Moment.{Moment}
use Rattle.file_disk.specs.Moments.{is_in, is_open_in, moment_of}
use Rattle.file_disk.specs.Honest.{seen, state_of}

-- a sector stays where bytes are written elsewhere
pub sector_far : (bytes with : List ℕ) (offset s : ℕ) → offset + length with ≤ length bytes → (512 * s + 512 ≤ offset) ⊎ (offset + length with ≤ 512 * s)
    → sector_of (overwritten bytes offset with) s ≡ sector_of bytes s
sector_far bytes with offset s within (inl before) =
    let front : List ℕ = take offset bytes in
    let rest : List ℕ = drop (offset + length with) bytes in
    let all : overwritten bytes offset with ≡ front ++ (with ++ rest) = append_assoc front with rest in
    let size : length front ≡ offset = length-take-le offset bytes (omega arith) in
    sym (drop-take (512 * s) 512 (overwritten bytes offset with))
    ∙ ap (λ (l : List ℕ). drop (512 * s) l) (ap (λ (l : List ℕ). take (512 * s + 512) l) all ∙ take-append-le (512 * s + 512) front (with ++ rest) (omega (arith, size)) ∙ take-take (512 * s + 512) offset bytes before)
    ∙ drop-take (512 * s) 512 bytes
sector_far bytes with offset s within (inr end) =
    let front : List ℕ = take offset bytes ++ with in
    let rest : List ℕ = drop (offset + length with) bytes in
    let size : length front ≡ offset + length with = omega (arith, length-append (take offset bytes) with, length-take-le offset bytes (omega arith)) in
    let place : 512 * s ≡ length front + (512 * s - (offset + length with)) = omega (arith, size) in
    let back : offset + length with + (512 * s - (offset + length with)) ≡ 512 * s = omega arith in
    ap (λ (l : List ℕ). take 512 l)
    (ap (λ (n : ℕ). drop n (front ++ rest)) place
    ∙ drop-append-add front rest (512 * s - (offset + length with))
    ∙ drop-drop (512 * s - (offset + length with)) (offset + length with) bytes
    ∙ ap (λ (n : ℕ). drop n bytes) back)

-- a sector is as long in bytes that are as many
same_sector_size : (bytes more : List ℕ) (s : ℕ) → length bytes ≡ length more → length (sector_of bytes s) ≡ length (sector_of more s)
same_sector_size bytes more s same = omega (arith, length-take 512 (drop (512 * s) bytes), length-take 512 (drop (512 * s) more), length-drop (512 * s) bytes, length-drop (512 * s) more)

-- a sector that has none of some bytes lies before or after them
far_of : (s : ℕ) (part : Part) → is_in s part ≡ false → (512 * s + 512 ≤ part.offset) ⊎ (part.offset + part.count ≤ 512 * s)
far_of s part none = ⊎_elim
    (λ (lt : part.offset < 512 * s + 512). inr (grind (arith, nat_tests)))
    (λ (ge : 512 * s + 512 ≤ part.offset). inl ge)
    (cases_lt part.offset (512 * s + 512))

none_in : (s : ℕ) (part : Part) → (512 * s + 512 ≤ part.offset) ⊎ (part.offset + part.count ≤ 512 * s) → is_in s part ≡ false
none_in s part (inl before) = grind (arith, nat_tests)
none_in s part (inr end) = grind (arith, nat_tests)

some_in : (s : ℕ) (part : Part) → 512 * s < part.offset + part.count → part.offset < 512 * s + 512 → is_in s part ≡ true
some_in s part low high = grind (arith, nat_tests)

last_of : (b : Bool) → (b || false) ≡ b
last_of true = refl
last_of false = refl

-- which sectors are open after one more part
one_more : (parts : List Part) (part : Part) (s : ℕ) → is_open_in (parts ++ part ∷ []) s ≡ (is_open_in parts s || is_in s part)
one_more parts part s = list_any-append (is_in s) parts (part ∷ []) ∙ ap (λ (b : Bool). is_open_in parts s || b) (last_of (is_in s part))

-- ---- the moments

module _ (ms : List Moment) (next : Moment) (some : 0 < length ms) where
  earlier : (k : ℕ) → k < length ms → slice_get (ms ++ next ∷ []) k ≡ slice_get ms k
  earlier k below =
      slice_get-get_or (ms ++ next ∷ []) k next (omega (arith, length-append ms (next ∷ [])))
      ∙ ap (λ (m : Moment). Some m) (get_or_append_left ms (next ∷ []) next k below)
      ∙ sym (slice_get-get_or ms k next below)

  newest : slice_get (ms ++ next ∷ []) (length ms) ≡ Some next
  newest =
      slice_get-get_or (ms ++ next ∷ []) (length ms) next (omega (arith, length-append ms (next ∷ [])))
      ∙ ap (λ (m : Moment). Some m) (get_or_push ms next next (length ms) refl)

  -- the file now
  pub now_is : (state_of (ms ++ next ∷ [])).at (length (ms ++ next ∷ []) - 1) ≡ moment_of next
  now_is =
      let last : length (ms ++ next ∷ []) - 1 ≡ length ms = omega (arith, length-append ms (next ∷ [])) in
      ap (λ (n : ℕ). seen (slice_get (ms ++ next ∷ []) n)) last ∙ ap seen newest

  -- all that comes of it is what the new moment has of the last one
  pub touched : (first bytes : ℕ) → SameOutside first bytes (medium_of ((state_of ms).at (length ms - 1))) (medium_of (moment_of next))
      → Touches first bytes (whole_disk (state_of ms)) (whole_disk (state_of (ms ++ next ∷ [])))
  touched first bytes same =
      let S : FileMoment → Type 0 = λ m. SameOutside first bytes (medium_of ((state_of ms).at (length ms - 1))) (medium_of m) in
      record {
        later = omega (arith, length-append ms (next ∷ []));
        kept = λ k le. ap (λ (o : Option Moment). medium_of (seen o)) (earlier k (omega arith));
        since = λ k from to. ⊎_elim
            (λ (lt : k < length ms).
            let here : k ≡ length ms - 1 = omega arith in
            subst S (sym (ap seen (earlier k lt) ∙ ap (λ (n : ℕ). seen (slice_get ms n)) here)) (record { contents = λ s out. refl; closed = λ s out shut. shut; whole = λ s. refl }))
            (λ (ge : length ms ≤ k).
            let here : k ≡ length ms = omega (arith, length-append ms (next ∷ [])) in
            subst S (sym (ap (λ (n : ℕ). seen (slice_get (ms ++ next ∷ []) n)) here ∙ ap seen newest)) same)
            (cases_lt k (length ms));
      }

or_some : (a b : Bool) → b ≡ true → (a || b) ≡ true
or_some true b is = refl
or_some false b is = is

or_none : (a b : Bool) → b ≡ false → (a || b) ≡ a
or_none true b is = refl
or_none false b is = is

-- ---- a write

module _ (ms : List Moment) (last next : Moment) (offset size : ℕ) (with : List ℕ) (some : 0 < length ms) (was : slice_get ms (length ms - 1) ≡ Some last)
    (bytes : next.bytes.items ≡ overwritten last.bytes.items offset with) (parts : next.parts.items ≡ last.parts.items ++ record { offset = offset; count = length with } ∷ [])
    (within : offset + length with ≤ length last.bytes.items) (few : length with ≤ size) where
  abbrev part : Part
  part = record { offset = offset; count = length with }

  abbrev old : FileState
  old = state_of ms

  abbrev new : FileState
  new = state_of (ms ++ next ∷ [])

  old_is : old.at (length ms - 1) ≡ moment_of last
  old_is = ap seen was

  new_open : (s : ℕ) → (now (whole_disk new)).is_open s ≡ (is_open_in last.parts.items s || is_in s part)
  new_open s = ap (λ (m : FileMoment). m.is_open s) (now_is ms next some) ∙ ap (λ (l : List Part). is_open_in l s) parts ∙ one_more last.parts.items part s

  still_open : (s : ℕ) → is_in s part ≡ false → (now (whole_disk new)).is_open s ≡ (now (whole_disk old)).is_open s
  still_open s none = new_open s ∙ or_none (is_open_in last.parts.items s) (is_in s part) none ∙ sym (ap (λ (m : FileMoment). m.is_open s) old_is)

  still_held : (s : ℕ) → is_in s part ≡ false → sector_of (bytes_of new) s ≡ sector_of (bytes_of old) s
  still_held s none =
      ap (λ (m : FileMoment). sector_of m.bytes s) (now_is ms next some) ∙ ap (λ (l : List ℕ). sector_of l s) bytes
      ∙ sector_far last.bytes.items with offset s within (far_of s part none) ∙ sym (ap (λ (m : FileMoment). sector_of m.bytes s) old_is)

  same_size : length (bytes_of new) ≡ length (bytes_of old)
  same_size =
      ap (λ (m : FileMoment). length m.bytes) (now_is ms next some) ∙ ap length bytes ∙ length-overwritten last.bytes.items with offset within ∙ sym (ap (λ (m : FileMoment). length m.bytes) old_is)

  apart : (s : ℕ) → Outside (offset / 512) (offset % 512 + size) s → is_in s part ≡ false
  apart s (inl before) = none_in s part (inl (omega arith))
  apart s (inr end) = none_in s part (inr (omega arith))

  same_outside : SameOutside (offset / 512) (offset % 512 + size) (medium_of (old.at (length ms - 1))) (medium_of (new.at (length (ms ++ next ∷ []) - 1)))
  same_outside = record {
    contents = λ s out. still_held s (apart s out);
    closed = λ s out shut. still_open s (apart s out) ∙ shut;
    whole = λ s. same_sector_size (bytes_of new) (bytes_of old) s same_size;
  }

  pub write_only : WritesOnly (offset / 512) (offset % 512 + size) old new
  write_only =
      let S : FileMoment → Type 0 = λ m. SameOutside (offset / 512) (offset % 512 + size) (medium_of (old.at (length ms - 1))) (medium_of m) in
      record {
        moments = touched ms next some (offset / 512) (offset % 512 + size) (subst S (now_is ms next some) same_outside);
        open_or_same = λ i inside. ⊎_elim
            (λ (in_it : is_in (offset / 512 + i) part ≡ true). inl (new_open (offset / 512 + i) ∙ or_some (is_open_in last.parts.items (offset / 512 + i)) (is_in (offset / 512 + i) part) in_it))
            (λ (none : is_in (offset / 512 + i) part ≡ false). inr (still_open (offset / 512 + i) none, still_held (offset / 512 + i) none))
            (cases_Bool (is_in (offset / 512 + i) part));
        others_open = λ s out. still_open s (apart s out);
        size = same_size;
      }

  pub write_opens : AreOpen (whole_disk new) (offset / 512) (offset % 512 + length with)
  write_opens i inside =
      new_open (offset / 512 + i) ∙ or_some (is_open_in last.parts.items (offset / 512 + i)) (is_in (offset / 512 + i) part) (some_in (offset / 512 + i) part (omega arith) (omega arith))

  pub write_holds : bytes_of new ≡ overwritten (bytes_of old) offset with
  write_holds = ap (λ (m : FileMoment). m.bytes) (now_is ms next some) ∙ bytes ∙ sym (ap (λ (m : FileMoment). overwritten m.bytes offset with) old_is)

-- ---- a sync

module _ (ms : List Moment) (last next : Moment) (some : 0 < length ms) (was : slice_get ms (length ms - 1) ≡ Some last)
    (bytes : next.bytes.items ≡ last.bytes.items) (parts : next.parts.items ≡ []) where
  pub sync_bytes : bytes_of (state_of (ms ++ next ∷ [])) ≡ bytes_of (state_of ms)
  sync_bytes = ap (λ (m : FileMoment). m.bytes) (now_is ms next some) ∙ bytes ∙ sym (ap (λ (m : FileMoment). m.bytes) (ap seen was))

  pub sync_settles : IsSynced (whole_disk (state_of (ms ++ next ∷ [])))
  sync_settles s = ap (λ (m : FileMoment). m.is_open s) (now_is ms next some) ∙ ap (λ (l : List Part). is_open_in l s) parts

  pub sync_only : Touches 0 0 (whole_disk (state_of ms)) (whole_disk (state_of (ms ++ next ∷ [])))
  sync_only =
      let S : FileMoment → Type 0 = λ m. SameOutside 0 0 (medium_of ((state_of ms).at (length ms - 1))) (medium_of m) in
      touched ms next some 0 0 (subst S (now_is ms next some) (record {
        contents = λ s out. ap (λ (l : List ℕ). sector_of l s) sync_bytes;
        closed = λ s out shut. sync_settles s;
        whole = λ s. ap (λ (l : List ℕ). length (sector_of l s)) sync_bytes;
      }))
