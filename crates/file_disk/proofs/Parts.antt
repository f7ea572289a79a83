-- Calls on a file that do a part of what they were handed.
use Rattle.std.proofs.Common.{◌≡◌, ◌⊎◌, inl, inr, ⊎_elim, ℕ, ◌+◌, ◌-◌, ◌*◌, ◌/◌, ◌%◌, ◌<◌, ◌≤◌, true, List, [], ◌++◌, length, take, drop, replicate, refl, sym, ◌∙◌, ap, subst, append_assoc, arith, length-append, length-drop}
use Rattle.std.specs.Prelude.{Result, OnOk}
use Rattle.std.proofs.lemmas.Bool.{cases_lt}
use Rattle.std.proofs.lemmas.Result.{on_ok_weaker}
use Rattle.std.proofs.lemmas.List.{take_at, drop-drop, drop-take, drop-append-le, take-append-le, take-take, length-take-le}
use Rattle.std.proofs.lemmas.Slice.{take-put_mid}
use Rattle.std.proofs.lemmas.List.{length-replicate, take-replicate, drop-replicate, replicate-append-replicate}
use Rattle.std.proofs.Math.Seq.{take-nil, take-add, take-append-add, drop-append-add}
use borrow.Rule.Slice.PartMut.{put_mid}
use Rattle.disk.specs.State.{now, contents_of, Outside, Holds, AreOpen, sector_of, HoldsZeros}
use Rattle.file_disk.specs.Files.{FileState, whole_disk, overwritten, resized, WritesOnly}
use Rattle.disk.proofs.Moments.{touches_none, touch_on, widen}
use Rattle.disk.proofs.Sectors.{sector_past, zeros_at}

-- one part more was read
pub read_more : (out tail file : List ℕ) (at done count k : ℕ) → done + k ≡ length out → length tail ≡ k → count ≤ k
    → take done out ≡ take done (drop at file) → take count tail ≡ take count (drop (at + done) file)
    → take (done + count) (put_mid done k out tail) ≡ take (done + count) (drop at file)
read_more out tail file at done count k size rest few before here =
    let next : List ℕ = put_mid done k out tail in
    sym (take-take (done + count) (done + k) next (omega arith))
    ∙ ap (λ (l : List ℕ). take (done + count) l) (take-put_mid done k out tail (done + k) (omega arith) (omega arith))
    ∙ ap (λ (n : ℕ). take (n + count) (take done out ++ tail)) (sym (length-take-le done out (omega arith)))
    ∙ take-append-add (take done out) tail count
    ∙ (λ i. before i ++ here i)
    ∙ ap (λ (l : List ℕ). take done (drop at file) ++ take count l) (sym (drop-drop done at file))
    ∙ sym (take-add done count (drop at file))

-- bytes that were read are those of the sectors
pub read_holds : (file out : List ℕ) (first size : ℕ) → length out ≡ size → size % 512 ≡ 0 → out ≡ take size (drop (512 * first) file) → Holds (λ s. sector_of file s) first out
read_holds file out first size wide whole is i inside =
    let F : List ℕ = drop (512 * first) file in
    let rest : ℕ = size - 512 * i in
    let all : 512 * i + rest ≡ size = omega arith in
    let end : drop (512 * i) out ≡ take rest (drop (512 * i) F) = ap (λ (l : List ℕ). drop (512 * i) l) (is ∙ ap (λ (n : ℕ). take n F) (sym all)) ∙ drop-take (512 * i) rest F in
    let place : 512 * first + 512 * i ≡ 512 * (first + i) = omega arith in
    sym (ap (λ (l : List ℕ). take 512 l) end
    ∙ take-take 512 rest (drop (512 * i) F) (omega arith)
    ∙ ap (λ (l : List ℕ). take 512 l) (drop-drop (512 * i) (512 * first) file)
    ∙ ap (λ (n : ℕ). take 512 (drop n file)) place)

-- what an answer that is handed on says
pub handed_on : {E P Q : Type 0} (answer result : Result (Unit {0}) E) → result ≡ answer → OnOk answer P → (P → Q) → OnOk result Q
handed_on {E} {P} {Q} answer result same so then = let R : Result (Unit {0}) E → Type 0 = λ r. OnOk r Q in subst R (sym same) (on_ok_weaker answer then so)

-- the size stays where bytes are written over others
pub length-overwritten : (file with : List ℕ) (at : ℕ) → at + length with ≤ length file → length (overwritten file at with) ≡ length file
length-overwritten file with at within =
    omega (arith, length-append (take at file ++ with) (drop (at + length with) file), length-append (take at file) with, length-take-le at file (omega arith), length-drop (at + length with) file)

-- one part more is written
pub overwritten_more : (file bytes : List ℕ) (at done count : ℕ) → at + length bytes ≤ length file → done + count ≤ length bytes
    → overwritten (overwritten file at (take done bytes)) (at + done) (take count (drop done bytes)) ≡ overwritten file at (take (done + count) bytes)
overwritten_more file bytes at done count within few =
    let u : List ℕ = take done bytes in
    let v : List ℕ = take count (drop done bytes) in
    let front : List ℕ = take at file ++ u in
    let size : length u ≡ done = length-take-le done bytes (omega arith) in
    let ahead : length front ≡ at + done = omega (arith, length-append (take at file) u, length-take-le at file (omega arith), size) in
    let joined : u ++ v ≡ take (done + count) bytes = sym (take-add done count bytes) in
    let place : at + length u + length v ≡ at + length (u ++ v) = omega (arith, length-append u v) in
    let old : List ℕ = overwritten file at u in
    let head : take (at + done) old ≡ front = take_at front (drop (at + length u) file) (at + done) ahead in
    let tail : drop (at + done + length v) old ≡ drop (at + length u + length v) file =
    ap (λ (n : ℕ). drop (n + length v) old) (sym ahead) ∙ drop-append-add front (drop (at + length u) file) (length v) ∙ drop-drop (length v) (at + length u) file in
    (λ i. head i ++ v ++ tail i)
    ∙ (λ i. append_assoc (take at file) u v i ++ drop (place i) file)
    ∙ ap (λ (w : List ℕ). overwritten file at w) joined

-- what was written is held by its sectors
pub overwritten_holds : (file bytes : List ℕ) (first : ℕ) → 512 * first + length bytes ≤ length file → length bytes % 512 ≡ 0 → Holds (λ s. sector_of (overwritten file (512 * first) bytes) s) first bytes
overwritten_holds file bytes first within whole i inside =
    let front : List ℕ = take (512 * first) file in
    let end : List ℕ = drop (512 * first + length bytes) file in
    let ahead : length front ≡ 512 * first = length-take-le (512 * first) file (omega arith) in
    let place : 512 * (first + i) ≡ length front + 512 * i = omega (arith, ahead) in
    let rest : ℕ = length bytes - 512 * i in
    (λ j. take 512 (drop (place j) (append_assoc front bytes end j)))
    ∙ ap (λ (l : List ℕ). take 512 l) (drop-append-add front (bytes ++ end) (512 * i) ∙ drop-append-le (512 * i) bytes end (omega arith))
    ∙ take-append-le 512 (drop (512 * i) bytes) end (omega (arith, length-drop (512 * i) bytes))

-- so does a file that has these bytes
pub written_holds : (file bytes new : List ℕ) (first : ℕ) → 512 * first + length bytes ≤ length file → length bytes % 512 ≡ 0 → new ≡ overwritten file (512 * first) bytes → Holds (λ s. sector_of new s) first bytes
written_holds file bytes new first within whole is = let H : List ℕ → Type 0 = λ l. Holds (λ s. sector_of l s) first bytes in subst H (sym is) (overwritten_holds file bytes first within whole)

-- no call writes nothing
pub writes_none : (first bytes : ℕ) (f : FileState) → WritesOnly first bytes f f
writes_none first bytes f = record {
  moments = touches_none first bytes (whole_disk f);
  open_or_same = λ i inside. inr (refl, refl);
  others_open = λ s out. refl;
  size = refl;
}

-- what a write does to each sector that it may touch or not
each_sector : (first bytes : ℕ) (old new : FileState) → WritesOnly first bytes old new → (s : ℕ)
    → ((now (whole_disk new)).is_open s ≡ true) ⊎ (((now (whole_disk new)).is_open s ≡ (now (whole_disk old)).is_open s) × (contents_of (whole_disk new) s ≡ contents_of (whole_disk old) s))
each_sector first bytes old new call s = ⊎_elim
    (λ (before : s < first). inr (call.others_open s (inl before), (call.moments.since new.clock call.moments.later (omega arith)).contents s (inl before)))
    (λ (from : first ≤ s). ⊎_elim
    (λ (inside : 512 * s < 512 * first + bytes).
    let place : first + (s - first) ≡ s = omega arith in
    subst (λ (n : ℕ). ((now (whole_disk new)).is_open n ≡ true) ⊎ (((now (whole_disk new)).is_open n ≡ (now (whole_disk old)).is_open n) × (contents_of (whole_disk new) n ≡ contents_of (whole_disk old) n))) place
    (call.open_or_same (s - first) (omega arith)))
    (λ (end : 512 * first + bytes ≤ 512 * s). inr (call.others_open s (inr end), (call.moments.since new.clock call.moments.later (omega arith)).contents s (inr end)))
    (cases_lt (512 * s) (512 * first + bytes)))
    (cases_lt s first)

-- a write of some sectors is one of wider ones
pub writes_wider : (first bytes wide size : ℕ) (old new : FileState) → ((s : ℕ) → Outside wide size s → Outside first bytes s) → WritesOnly first bytes old new → WritesOnly wide size old new
writes_wider first bytes wide size old new out call = record {
  moments = widen first bytes wide size (whole_disk old) (whole_disk new) out call.moments;
  open_or_same = λ i inside. each_sector first bytes old new call (wide + i);
  others_open = λ s far. call.others_open s (out s far);
  size = call.size;
}

-- a sector that is open stays so
pub stays_open : (first bytes : ℕ) (old new : FileState) → WritesOnly first bytes old new → (s : ℕ) → (now (whole_disk old)).is_open s ≡ true → (now (whole_disk new)).is_open s ≡ true
stays_open first bytes old new call s was = ⊎_elim
    (λ (ajar : (now (whole_disk new)).is_open s ≡ true). ajar)
    (λ (same : ((now (whole_disk new)).is_open s ≡ (now (whole_disk old)).is_open s) × (contents_of (whole_disk new) s ≡ contents_of (whole_disk old) s)). same.0 ∙ was)
    (each_sector first bytes old new call s)

-- one write after another, of the same sectors
pub writes_on : (first bytes : ℕ) (old mid new : FileState) → WritesOnly first bytes old mid → WritesOnly first bytes mid new → WritesOnly first bytes old new
writes_on first bytes old mid new one other = record {
  moments = touch_on first bytes (whole_disk old) (whole_disk mid) (whole_disk new) one.moments other.moments;
  open_or_same = λ i inside. ⊎_elim
      (λ (ajar : (now (whole_disk mid)).is_open (first + i) ≡ true). inl (stays_open first bytes mid new other (first + i) ajar))
      (λ (same : ((now (whole_disk mid)).is_open (first + i) ≡ (now (whole_disk old)).is_open (first + i)) × (contents_of (whole_disk mid) (first + i) ≡ contents_of (whole_disk old) (first + i))). ⊎_elim
      (λ (ajar : (now (whole_disk new)).is_open (first + i) ≡ true). inl ajar)
      (λ (again : ((now (whole_disk new)).is_open (first + i) ≡ (now (whole_disk mid)).is_open (first + i)) × (contents_of (whole_disk new) (first + i) ≡ contents_of (whole_disk mid) (first + i))).
      inr (again.0 ∙ same.0, again.1 ∙ same.1))
      (other.open_or_same i inside))
      (one.open_or_same i inside);
  others_open = λ s out. other.others_open s out ∙ one.others_open s out;
  size = other.size ∙ one.size;
}

-- ---- the rest of some bytes, from an offset within their sectors

-- the bytes that are left
pub length-rest : (bytes : List ℕ) (done : ℕ) → length (take (length bytes - done) (drop done bytes)) ≡ length bytes - done
length-rest bytes done = length-take-le (length bytes - done) (drop done bytes) (omega (arith, length-drop done bytes))

-- they are within the file
pub rest_within : (first at done size size' : ℕ) (bytes : List ℕ) → at ≡ 512 * first + done → done ≤ length bytes → 512 * first + length bytes ≤ size → size' ≡ size
    → at + length (take (length bytes - done) (drop done bytes)) ≤ size'
rest_within first at done size size' bytes place few within same = omega (arith, length-rest bytes done)

-- a call that hands them in touches no other sectors than those
pub only_more : (first at done : ℕ) (bytes : List ℕ) (old mid new : FileState) → at ≡ 512 * first + done → done ≤ length bytes
    → WritesOnly first (length bytes) old mid → WritesOnly (at / 512) (at % 512 + length (take (length bytes - done) (drop done bytes))) mid new → WritesOnly first (length bytes) old new
only_more first at done bytes old mid new place few one other =
    let all : done + length (take (length bytes - done) (drop done bytes)) ≡ length bytes = omega (arith, length-rest bytes done) in
    writes_on first (length bytes) old mid new one
    (writes_wider (at / 512) (at % 512 + length (take (length bytes - done) (drop done bytes))) first (length bytes) mid new
    (λ s out. ⊎_elim (λ (before : s < first). inl (omega arith)) (λ (end : 512 * first + length bytes ≤ 512 * s). inr (omega arith)) out) other)

-- each sector that it begins or goes on with is open
pub open_more : (first at part count done : ℕ) (mid new : FileState) → at ≡ 512 * first + done
    → WritesOnly (at / 512) (at % 512 + part) mid new → AreOpen (whole_disk mid) first done → AreOpen (whole_disk new) (at / 512) (at % 512 + count)
    → AreOpen (whole_disk new) first (done + count)
open_more first at part count done mid new place call before here i inside = ⊎_elim
    (λ (lt : 512 * i < done). stays_open (at / 512) (at % 512 + part) mid new call (first + i) (before i lt))
    (λ (ge : done ≤ 512 * i).
    let same : at / 512 + (first + i - at / 512) ≡ first + i = omega arith in
    subst (λ (n : ℕ). (now (whole_disk new)).is_open n ≡ true) same (here (first + i - at / 512) (omega arith)))
    (cases_lt (512 * i) done)

-- and what it did is written
pub written_more : (first at done count : ℕ) (bytes file mid new : List ℕ) → at ≡ 512 * first + done → done ≤ length bytes → count ≤ length (take (length bytes - done) (drop done bytes))
    → 512 * first + length bytes ≤ length file
    → mid ≡ overwritten file (512 * first) (take done bytes) → new ≡ overwritten mid at (take count (take (length bytes - done) (drop done bytes)))
    → new ≡ overwritten file (512 * first) (take (done + count) bytes)
written_more first at done count bytes file mid new place few little within so_far here =
    here
    ∙ (λ i. overwritten (so_far i) (place i) (take-take count (length bytes - done) (drop done bytes) (omega (arith, little, length-rest bytes done)) i))
    ∙ overwritten_more file bytes (512 * first) done count within (omega (arith, little, length-rest bytes done))

-- ---- a file that is filled

emptied : (file : List ℕ) → resized file 0 ≡ []
emptied file =
    let none : 0 - length file ≡ 0 = omega arith in
    ap (λ (n : ℕ). take 0 file ++ replicate n 0) none

filled : (size : ℕ) → resized [] size ≡ replicate size 0
filled size =
    let all : size - 0 ≡ size = omega arith in
    (λ i. take-nil size i ++ replicate (all i) 0)

-- a file that was emptied and then made longer holds zeros
pub zeros_filled : (file empty full : List ℕ) (sectors size : ℕ) → empty ≡ resized file 0 → full ≡ resized empty size → size ≡ 512 * sectors → full ≡ replicate (512 * sectors) 0
zeros_filled file empty full sectors size one two whole =
    two ∙ ap (λ (l : List ℕ). resized l size) (one ∙ emptied file) ∙ filled size ∙ ap (λ (n : ℕ). replicate n 0) whole

-- the sectors of zeros hold zeros, and there are no others
pub zeros_held : (full : List ℕ) (sectors : ℕ) → full ≡ replicate (512 * sectors) 0 → HoldsZeros sectors (λ s. sector_of full s)
zeros_held full sectors zeros = record {
  zeros = λ s below. zeros_at full sectors s zeros below;
  others = λ s past. sector_past full sectors s (ap length zeros ∙ length-replicate (512 * sectors) 0) past;
}

-- zeros that are written over zeros leave zeros
pub zeros_over_zeros : (file with : List ℕ) (at count size : ℕ) → file ≡ replicate size 0 → with ≡ replicate count 0 → at + count ≤ size
    → overwritten file at with ≡ replicate size 0
zeros_over_zeros file with at count size zeros these within =
    let width : length with ≡ count = ap length these ∙ length-replicate count 0 in
    let front : take at file ≡ replicate at 0 = ap (λ (l : List ℕ). take at l) zeros ∙ take-replicate at size 0 (omega arith) in
    let end : drop (at + length with) file ≡ replicate (size - (at + count)) 0 =
    (λ i. drop (at + width i) (zeros i)) ∙ drop-replicate (at + count) size 0 in
    let whole : at + count + (size - (at + count)) ≡ size = omega arith in
    (λ i. front i ++ these i ++ end i)
    ∙ ap (λ (l : List ℕ). l ++ replicate (size - (at + count)) 0) (replicate-append-replicate at count 0)
    ∙ replicate-append-replicate (at + count) (size - (at + count)) 0
    ∙ ap (λ (n : ℕ). replicate n 0) whole
