-- The bits in front of a list, and what is left of them.
use Rattle.std.proofs.Common.{◌≡◌, ℕ, ◌+◌, ◌-◌, ◌≤◌, Bool, List, length, take, drop, sym, ap, ◌∙◌, arith}
use Rattle.std.proofs.lemmas.List.{length-take-le, take-take, drop-take}

pub left_is : (n : ℕ) (bits : List Bool) → n ≤ length bits → length (take n bits) ≡ n
left_is n bits le = length-take-le n bits le

pub front_is : (n left : ℕ) (bits : List Bool) → n ≤ left → take n (take left bits) ≡ take n bits
front_is n left bits le = take-take n left bits le

pub rest_is : (n left : ℕ) (bits : List Bool) → n ≤ left → take (left - n) (drop n bits) ≡ drop n (take left bits)
rest_is n left bits le =
    let e : left ≡ n + (left - n) = omega arith in
    sym (ap (λ k. drop n (take k bits)) e ∙ drop-take n (left - n) bits)
