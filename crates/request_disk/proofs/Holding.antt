-- Sectors that are held.
use Rattle.std.proofs.Common.{◌≡◌, ⊎_elim, ℕ, ◌+◌, ◌*◌, ◌<◌, ◌≤◌, ◌==◌, Bool, true, false, cond, not, ◌||◌, List, [], ◌∷◌, ◌++◌, length, map, take, drop, get_or, refl, sym, ◌∙◌, ap, subst, arith, rules, lit<, suc, Option, Some, None, is_some}
use Rattle.std.specs.Prelude.{All, IfSome, nat_lt, position, if◌then◌else◌}
use Rattle.std.specs.List.{position_or_len, list_any, AllByRecursion}
use Rattle.std.proofs.lemmas.Bool.{cases_Bool}
use Rattle.std.proofs.lemmas.Bool.Decides.{nat_tests}
use Rattle.std.proofs.lemmas.List.{length-map, map_push, drop-map, take-map, map-append, take-append-drop, take_at, drop_at}
use Rattle.std.proofs.lemmas.List.Folds.{list_any-append}
use Rattle.std.proofs.lemmas.List.Elements.{All-get_or, All-weaker, All-map, All-push, All-append, All-take, All-drop, recursion_from_All, All-from_recursion}
use Rattle.std.proofs.lemmas.List.Quantifiers.{position-Some}
use Rattle.disk.specs.State.{sector_of, contents_of}
use Rattle.disk.specs.Record.{IsWithin, bytes_at, trace_of}
use Rattle.disk.specs.declared.record.Call.{Call}
use Rattle.request_disk.specs.Requests.{found_in, reported_at}
use Rattle.request_disk.proofs.Found.{bytes_now}
use Rattle.request_disk.specs.declared.known.Known.{Known}
use Rattle.request_disk.specs.Known.{numbers_of, has_number, with_number, with_space, IsHeld, reported_or, renewed}
use Rattle.request_disk.specs.Medium.{with_sectors, carried}
use Rattle.request_disk.specs.Requesting.{Requesting, knows, request_state}
use Rattle.request_disk.proofs.Carried.{carried_reported, put_one, put_other, put_same_bytes, reported_other}

-- where a sector is held, its number is among the numbers
length_same : {X Y : Type 0} (p : Y → Bool) (f : X → Y) (xs : List X) → position_or_len p (map f xs) ≡ position_or_len (λ x. p (f x)) xs
length_same p f [] = refl
length_same p f (x ∷ xs) = ap (λ (n : ℕ). cond (not (p (f x))) (1 + n) 0) (length_same p f xs)

pub place_same : (s : ℕ) (known : List Known) → is_some (position (λ k. k.sector == s) known) ≡ has_number s (numbers_of known)
place_same s known =
    let p : ℕ → Bool = λ n. n == s in let f : Known → ℕ = λ k. k.sector in
    let e : position_or_len p (map f known) ≡ position_or_len (λ k. p (f k)) known = length_same p f known in
    let l : length (map f known) ≡ length known = length-map known f in
    sym (λ i. is_some (cond (nat_lt (e i) (l i)) (Some (e i)) None))

-- whether one is held doesn't go by the place at which they begin
some_there : (b : Bool) (i : ℕ) → is_some (cond b (Some i) None) ≡ b
some_there true i = refl
some_there false i = refl

before_end : (b : Bool) (m n : ℕ) (r : Bool) → nat_lt m n ≡ r → nat_lt (cond (not b) (1 + m) 0) (suc n) ≡ (b || r)
before_end true m n r is = grind (arith, nat_tests)
before_end false m n r is = ⊎_elim
    (λ (yes : nat_lt m n ≡ true). let next : nat_lt (1 + m) (suc n) ≡ true = grind (arith, nat_tests, yes) in next ∙ sym yes ∙ is)
    (λ (no : nat_lt m n ≡ false). let next : nat_lt (1 + m) (suc n) ≡ false = grind (arith, nat_tests, no) in next ∙ sym no ∙ is)
    (cases_Bool (nat_lt m n))

any_before_end : {X : Type 0} (p : X → Bool) (xs : List X) → nat_lt (position_or_len p xs) (length xs) ≡ list_any p xs
any_before_end p [] = refl
any_before_end p (x ∷ xs) = before_end (p x) (position_or_len p xs) (length xs) (list_any p xs) (any_before_end p xs)

any_there : {X : Type 0} (p : X → Bool) (xs : List X) → is_some (position p xs) ≡ list_any p xs
any_there p xs = some_there (nat_lt (position_or_len p xs) (length xs)) (position_or_len p xs) ∙ any_before_end p xs

or_turned : (a b : Bool) → (a || b) ≡ (b || a)
or_turned true true = refl
or_turned true false = refl
or_turned false true = refl
or_turned false false = refl

any_turned : {X : Type 0} (p : X → Bool) (n : ℕ) (xs : List X) → list_any p xs ≡ list_any p (drop n xs ++ take n xs)
any_turned p n xs =
    ap (list_any p) (sym (take-append-drop n xs))
    ∙ list_any-append p (take n xs) (drop n xs)
    ∙ or_turned (list_any p (take n xs)) (list_any p (drop n xs))
    ∙ sym (list_any-append p (drop n xs) (take n xs))

pub has_turned : (s n : ℕ) (known : List Known) → is_some (position (λ k. k.sector == s) known) ≡ has_number s (numbers_of (drop n known ++ take n known))
has_turned s n known =
    let p : Known → Bool = λ k. k.sector == s in
    any_there p known ∙ any_turned p n known ∙ sym (any_there p (drop n known ++ take n known)) ∙ place_same s (drop n known ++ take n known)

pub all_turned : (P : Known → Type 0) (n : ℕ) (known : List Known) → All P (drop n known ++ take n known) → All P known
all_turned P n known all =
    let m : ℕ = length (drop n known) in
    let first : All P (take n known) = subst (λ (l : List Known). All P l) (drop_at (drop n known) (take n known) m refl) (All-drop P m (drop n known ++ take n known) all) in
    let rest : All P (drop n known) = subst (λ (l : List Known). All P l) (take_at (drop n known) (take n known) m refl) (All-take P m (drop n known ++ take n known) all) in
    subst (λ (l : List Known). All P l) (take-append-drop n known) (All-append P (take n known) (drop n known) first rest)

pub map_turned : (f : Known → Known) (n : ℕ) (known : List Known) → drop n (map f known) ++ take n (map f known) ≡ map f (drop n known ++ take n known)
map_turned f n known =
    (λ i. drop-map f n known i ++ take-map f n known i) ∙ sym (map-append f (drop n known) (take n known))

-- the sector at that place holds the medium's bytes
pub held_at : (sectors : ℕ) (medium : List ℕ) (known : List Known) (s i : ℕ) (d : Known) → position (λ k. k.sector == s) known ≡ Some i
    → All (IsHeld sectors medium) known → (get_or known i d).bytes ≡ sector_of medium s
held_at sectors medium known s i d is all =
    let so = position-Some (λ (k : Known). k.sector == s) known i d is in
    let here : (get_or known i d).sector ≡ s = grind (arith, nat_tests, so.1) in
    (All-get_or (IsHeld sectors medium) known i d so.0 all).bytes ∙ ap (λ (n : ℕ). sector_of medium n) here

-- requests that are carried out leave the numbers
pub numbers_renewed : (written : List ℕ) (calls : List Call) (known : List Known) → numbers_of (map (renewed written calls) known) ≡ numbers_of known
numbers_renewed written calls [] = refl
numbers_renewed written calls (k ∷ known) = ap (λ (ns : List ℕ). k.sector ∷ ns) (numbers_renewed written calls known)

-- and each sector holds what the medium holds then
reported_held : (medium written bytes : List ℕ) (s : ℕ) (at : Option ℕ) → bytes ≡ sector_of medium s → reported_or bytes written at ≡ reported_at medium written s at
reported_held medium written bytes s None is = is
reported_held medium written bytes s (Some at) is = refl

pub held_renewed : (sectors : ℕ) (medium written : List ℕ) (calls : List Call) (known : List Known) → All (IsWithin sectors (length written)) calls
    → length medium ≡ 512 * sectors → All (IsHeld sectors medium) known → All (IsHeld sectors (carried written medium calls)) (map (renewed written calls) known)
held_renewed sectors medium written calls known within size all =
    All-map (IsHeld sectors (carried written medium calls)) (renewed written calls) known
    (All-weaker (IsHeld sectors medium) (λ k. IsHeld sectors (carried written medium calls) (renewed written calls k)) (λ k held. record {
      below = held.below;
      bytes = reported_held medium written k.bytes k.sector (found_in k.sector calls) held.bytes ∙ sym (carried_reported sectors medium written calls within size k.sector);
    }) known all)

-- a sector is known that a request writes, or that is held
pub knows_found : (s at : ℕ) (w : Requesting) → found_in s w.requests ≡ Some at → knows s w ≡ true
knows_found s at w is = ap (λ (o : Option ℕ). is_some o || has_number s w.known) is

-- and one that no request writes, where it is held
pub knows_held : (s : ℕ) (w : Requesting) → found_in s w.requests ≡ None → knows s w ≡ has_number s w.known
knows_held s w is = ap (λ (o : Option ℕ). is_some o || has_number s w.known) is

-- one more is held
space_if : (P : Known → Type 0) (b : Bool) (known : List Known) → All P known → All P (if b then drop 1 known else known)
space_if P true known all = All-drop P 1 known all
space_if P false known all = all

pub held_more : (P : Known → Type 0) (known : List Known) (entry : Known) → All P known → P entry → All P (with_space known ++ entry ∷ [])
held_more P known entry all one = All-push P (with_space known) entry (space_if P (length known == 16) known all) one

numbers_if : (b : Bool) (known : List Known) → map (λ k. k.sector) (if b then drop 1 known else known) ≡ (if b then drop 1 (numbers_of known) else numbers_of known)
numbers_if true known = sym (drop-map (λ (k : Known). k.sector) 1 known)
numbers_if false known = refl

pub numbers_more : (known : List Known) (entry : Known) → numbers_of (with_space known ++ entry ∷ []) ≡ with_space (numbers_of known) ++ entry.sector ∷ []
numbers_more known entry =
    map_push (λ (k : Known). k.sector) (with_space known) entry
    ∙ ap (λ (ns : List ℕ). ns ++ entry.sector ∷ []) (numbers_if (length known == 16) known
    ∙ ap (λ (n : ℕ). if n == 16 then drop 1 (numbers_of known) else numbers_of known) (sym (length-map known (λ (k : Known). k.sector))))

-- of a sector that isn't known the disk holds what the medium held when the list was last empty
none_if : (o : Option ℕ) (b : Bool) → (is_some o || b) ≡ false → o ≡ None
none_if None b is = refl
none_if (Some at) b is = search (rules, is)

pub unknown_contents : (s : ℕ) (w : Requesting) → knows s w ≡ false → contents_of (request_state w) s ≡ sector_of w.medium s
unknown_contents s w is =
    sym (bytes_now w.medium w.written s w.requests)
    ∙ ap (λ (o : Option ℕ). reported_at w.medium w.written s o) (none_if (found_in s w.requests) (has_number s w.known) is)

-- a number that was added is there
last_there : (s : ℕ) (xs : List ℕ) → position_or_len (λ n. n == s) (xs ++ s ∷ []) < length (xs ++ s ∷ [])
last_there s [] = let same : (s == s) ≡ true = grind (arith, nat_tests) in subst (λ (b : Bool). cond (not b) 1 0 < 1) (sym same) (lit< tt)
last_there s (x ∷ xs) = shorter (x == s) (position_or_len (λ n. n == s) (xs ++ s ∷ [])) (length (xs ++ s ∷ [])) (last_there s xs)
  where
    shorter : (b : Bool) (m n : ℕ) → m < n → cond (not b) (1 + m) 0 < suc n
    shorter true m n lt = omega arith
    shorter false m n lt = omega (arith, lt)

pub has_last : (s : ℕ) (xs : List ℕ) → has_number s (xs ++ s ∷ []) ≡ true
has_last s xs =
    let m : ℕ = position_or_len (λ n. n == s) (xs ++ s ∷ []) in let n : ℕ = length (xs ++ s ∷ []) in
    let lt : m < n = last_there s xs in
    let there : nat_lt m n ≡ true = grind (arith, nat_tests, lt) in
    ap (λ (b : Bool). is_some (cond b (Some m) None)) there

pub or_right : (a b : Bool) → b ≡ true → (a || b) ≡ true
or_right true b is = refl
or_right false b is = is

-- sectors that are held stay the medium's where another one's bytes are put in
absent : (b : Bool) (m n : ℕ) → suc n ≤ cond (not b) (1 + m) 0 → (b ≡ false) × (n ≤ m)
absent true m n le = absurd (never le)
  where
    never : suc n ≤ 0 → ⊥
    never le = grind (arith, le)
absent false m n le = (refl, omega (arith, le))

held_others : (sectors : ℕ) (medium medium' : List ℕ) (s : ℕ) → ((t : ℕ) → (t == s) ≡ false → sector_of medium' t ≡ sector_of medium t)
    → (known : List Known) → length known ≤ position_or_len (λ k. k.sector == s) known
    → AllByRecursion (IsHeld sectors medium) known → AllByRecursion (IsHeld sectors medium') known
held_others sectors medium medium' s others [] le all = tt
held_others sectors medium medium' s others (k ∷ known) le all =
    let so = absent (k.sector == s) (position_or_len (λ k. k.sector == s) known) (length known) le in
    (record { below = all.0.below; bytes = all.0.bytes ∙ sym (others k.sector so.0) }, held_others sectors medium medium' s others known so.1 all.1)

is_past : (m n : ℕ) → is_some (cond (nat_lt m n) (Some m) None) ≡ false → n ≤ m
is_past m n is = grind (arith, nat_tests, is)

pub held_still : (sectors : ℕ) (medium medium' : List ℕ) (s : ℕ) → ((t : ℕ) → (t == s) ≡ false → sector_of medium' t ≡ sector_of medium t)
    → (known : List Known) → is_some (position (λ k. k.sector == s) known) ≡ false
    → All (IsHeld sectors medium) known → All (IsHeld sectors medium') known
held_still sectors medium medium' s others known none all =
    All-from_recursion (IsHeld sectors medium') known
    (held_others sectors medium medium' s others known (is_past (position_or_len (λ k. k.sector == s) known) (length known) none)
    (recursion_from_All (IsHeld sectors medium) known all))

-- a sector that isn't known is neither written nor held
pub unknown_found : (s : ℕ) (w : Requesting) → knows s w ≡ false → found_in s w.requests ≡ None
unknown_found s w is = none_if (found_in s w.requests) (has_number s w.known) is

or_left : (a b : Bool) → (a || b) ≡ false → b ≡ false
or_left true b is = search (rules, is)
or_left false b is = is

pub unknown_held : (s : ℕ) (w : Requesting) → knows s w ≡ false → has_number s w.known ≡ false
unknown_held s w is = or_left (is_some (found_in s w.requests)) (has_number s w.known) is

-- the disk on a medium with a sector's bytes
module _ (w : Requesting) (s : ℕ) (bytes : List ℕ) (below : s < w.sectors) (one : length bytes ≡ 512) (size : length w.medium ≡ 512 * w.sectors) (unknown : knows s w ≡ false) where
  abbrev next : List ℕ
  next = with_sectors bytes w.medium (record { first = s; sectors = 1; from = 0 })

  pub reported_put : bytes_at next w.written s (trace_of s (take (length w.requests) w.requests)).last ≡ bytes
  reported_put =
      sym (bytes_now next w.written s w.requests)
      ∙ ap (λ (o : Option ℕ). reported_at next w.written s o) (unknown_found s w unknown)
      ∙ put_one w.sectors w.medium bytes s below one size

  pub reported_others : (t : ℕ) → (t == s) ≡ false → bytes_at next w.written t (trace_of t (take (length w.requests) w.requests)).last ≡ contents_of (request_state w) t
  reported_others t other =
      sym (bytes_now next w.written t w.requests)
      ∙ reported_other w.medium next w.written t (found_in t w.requests) (put_other w.sectors w.medium bytes s below one size t other)
      ∙ bytes_now w.medium w.written t w.requests

  pub same_medium : bytes ≡ contents_of (request_state w) s → next ≡ w.medium
  same_medium is = put_same_bytes w.sectors w.medium bytes s below one size (is ∙ unknown_contents s w unknown)

-- a sector that is handed in is held
pub has_added : (s : ℕ) (known : List ℕ) → has_number s (with_number s known) ≡ true
has_added s known = has_last s (with_space known)

-- what is so of what an answer has
pub if_some : (T : Type 0) (P Q : T → Type 0) (each : (x : T) → P x → Q x) (o : Option T) → IfSome o P → IfSome o Q
if_some T P Q each None is = is
if_some T P Q each (Some x) is = each x is
