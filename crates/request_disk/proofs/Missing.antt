-- What the calls of a disk leave of which some sectors are lent for reading.
use Rattle.std.proofs.Common.{◌≡◌, ℕ, ◌+◌, ◌-◌, ◌<◌, ◌≤◌, List, Option, Some, None, refl, sym, ◌∙◌, ap, subst, arith}
use Rattle.std.specs.Prelude.{Bool, true, false, ◌==◌, ◌&&◌, not, nat_le, nat_lt, if◌then◌else◌, replicate}
use Rattle.std.proofs.lemmas.Bool.{false≢true}
use Rattle.std.proofs.lemmas.Bool.Decides.{nat_tests}
use Rattle.disk.specs.State.{Platter, Counted, Touches, contents_of}
use Rattle.disk.proofs.Moments.{quiet_synced}
use Rattle.request_disk.specs.Requesting.{Requesting, request_state, knows}
use Rattle.request_disk.specs.Lent.{Lent, lent_of, lent_state, lent_at, lent_clock, is_lent, fails_at, lent_contents, mark_of, IsMissing, WantsMissing, DescribesMissing}

-- a mark says what it is of
marks : (a b : Bool) → mark_of a ≡ mark_of b → a ≡ b
marks true true is = refl
marks true false is = absurd cc
marks false true is = absurd cc
marks false false is = refl

-- the sector of a write that was tried is open
open_there : (d : Requesting) (first count : ℕ) (tried : Option ℕ) (t : ℕ) → tried ≡ Some t → (lent_at d first count tried (lent_clock tried)).is_open t ≡ true
open_there d first count None t is = absurd cc
open_there d first count (Some u) t is = (let same : u ≡ t = cc in subst (λ (n : ℕ). (t == n) ≡ true) (sym same) (grind (arith, nat_tests)))

-- where no sector is open no write was tried
none_tried : (d : Requesting) (first count : ℕ) (tried : Option ℕ) → ((s : ℕ) → (lent_at d first count tried (lent_clock tried)).is_open s ≡ false) → tried ≡ None
none_tried d first count None shut = refl
none_tried d first count (Some t) shut = absurd (false≢true (sym (shut t) ∙ open_there d first count (Some t) t refl))

-- a sector at which a read fails was lent, and isn't known
failing : (lent known : Bool) → (lent && not known) ≡ true → (lent ≡ true) × (known ≡ false)
failing true true is = absurd cc
failing true false is = (refl, refl)
failing false known is = absurd cc

fails_so : (lent known : Bool) → lent ≡ true → known ≡ false → (lent && not known) ≡ true
fails_so true true lent known = absurd cc
fails_so true false lent known = refl
fails_so false known lent is = absurd cc

each_of : (a b : Bool) → (a && b) ≡ true → (a ≡ true) × (b ≡ true)
each_of true true is = (refl, refl)
each_of true false is = absurd cc
each_of false b is = absurd cc

-- to be lent is to lie between
pub lent_between : (first count s : ℕ) → is_lent first count s ≡ true → (first ≤ s) × (s < first + count)
lent_between first count s is =
    let halves = each_of (nat_le first s) (nat_lt (s - first) count) is in
    let from : first ≤ s = grind (halves.0, arith, nat_tests) in
    let to : s - first < count = grind (halves.1, arith, nat_tests) in
    (from, omega (arith, from, to))

pub between_lent : (first count s : ℕ) → first ≤ s → s < first + count → is_lent first count s ≡ true
between_lent first count s from to =
    let less : s - first < count = omega (arith, from, to) in
    grind (from, less, arith, nat_tests)

missing_fails : (d : Requesting) (first count s : ℕ) → IsMissing d first count s → fails_at d first count s ≡ true
missing_fails d first count s is = fails_so (is_lent first count s) (knows s d) (between_lent first count s is.lent.0 is.lent.1) is.unknown

pub fails_missing : (d : Requesting) (first count s : ℕ) → s < d.sectors → fails_at d first count s ≡ true → IsMissing d first count s
fails_missing d first count s below is =
    let halves = failing (is_lent first count s) (knows s d) is in
    record { lent = lent_between first count s halves.0; below = below; unknown = halves.1 }

same_missing : (old new : Lent) (wanted : Option ℕ) → new.disk.sectors ≡ old.disk.sectors
    → ((s : ℕ) → fails_at new.disk new.first new.count s ≡ fails_at old.disk old.first old.count s)
    → WantsMissing new.disk new.first new.count wanted → WantsMissing old.disk old.first old.count wanted
same_missing old new None size fails is = is
same_missing old new (Some s) size fails is =
    fails_missing old.disk old.first old.count s (subst (λ (n : ℕ). s < n) size is.below) (sym (fails s) ∙ missing_fails new.disk new.first new.count s is)

-- where calls that only read failed since sectors were lent, one of them is wanted that the disk has, and that isn't known
pub missing_there : (d : Requesting) (first count : ℕ) (r : Lent) → DescribesMissing r → Counted true (lent_state (lent_of d first count)) (lent_state r)
    → Touches 0 0 (lent_state (lent_of d first count)) (lent_state r) → WantsMissing d first count r.wanted
missing_there d first count r describes counted quiet =
    let shut : (s : ℕ) → (lent_at r.disk r.first r.count r.tried (lent_clock r.tried)).is_open s ≡ false = quiet_synced (lent_state (lent_of d first count)) (lent_state r) quiet (λ s. refl) in
    let initial : lent_at r.disk r.first r.count r.tried 0 ≡ lent_at d first count None 0 = quiet.kept 0 (omega arith) in
    let fails : (s : ℕ) → fails_at r.disk r.first r.count s ≡ fails_at d first count s = λ s. marks (fails_at r.disk r.first r.count s) (fails_at d first count s) (ap (λ (p : Platter). p.contents s) initial) in
    let one : r.faults ≡ 1 = counted.faults in
    same_missing (lent_of d first count) r r.wanted counted.sectors fails (describes (none_tried r.disk r.first r.count r.tried shut) (omega (arith, one)))

zeros_of : (lent known : Bool) (content zeros : List ℕ) → lent ≡ false → known ≡ false → zeros ≡ (if lent then content else (if known then content else zeros))
zeros_of true known content zeros lent unknown = absurd cc
zeros_of false true content zeros lent unknown = absurd cc
zeros_of false false content zeros lent unknown = refl

-- a sector that wasn't lent, and isn't known, has zeros
pub unlent : (d : Requesting) (first count s : ℕ) → is_lent first count s ≡ false → knows s d ≡ false → replicate 512 0 ≡ lent_contents d first count s
unlent d first count s lent unknown = zeros_of (is_lent first count s) (knows s d) (contents_of (request_state d) s) (replicate 512 0) lent unknown

-- a sector is handed out exactly where a read of it doesn't fail
pub fails_where : (fails : Bool) → not fails ≡ false → fails ≡ true
fails_where true is = refl
fails_where false is = absurd cc

pub reads_where : (fails : Bool) → not fails ≡ true → fails ≡ false
reads_where true is = absurd cc
reads_where false is = refl
