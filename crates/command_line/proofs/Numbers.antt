-- What `parse` reads as a number.
use Rattle.std.proofs.Common.{◌≡◌, ◌∙◌, ◌+◌, ◌^◌, ◌<◌, ◌≤◌, ℕ, Bool, List, true, false, if◌then◌else◌, refl, sym, ap, arith}
use Rattle.std.specs.Prelude.{Some, None, Result, Ok, Err}
use Rattle.std.specs.Result.{result_ok}
use Rattle.std.specs.Str.Parse.{ParsesUnsigned, digits_value, without_leading_plus}
use Rattle.clap.specs.ValueTests.{is_unsigned_in}
use Rattle.clap.specs.declared.builder.value_parser.ValueParser.TheVariants as vp
use Rattle.clap.proofs.ValueTestLemmas.{Accepts-accepts, accepts-Accepts}
use Rattle.command_line.specs.Arguments.{number_of}

if_true : {X : Type 0} (b : Bool) (x y : X) → b ≡ true → (if b then x else y) ≡ x
if_true b x y e = rw e refl

if_false : {X : Type 0} (b : Bool) (x y : X) → (b ≡ true → ⊥) → (if b then x else y) ≡ y
if_false true x y e = absurd (e refl)
if_false false x y e = refl

pub number_read : {E : Type 0} (bits most : ℕ) (text : List ℕ) (r : Result ℕ E) → 2 ^ bits ≡ most + 1 → most < 2 ^ 64 → ParsesUnsigned bits 10 text r → result_ok r ≡ number_of most text
number_read bits most text (Ok n) size fits h =
    let below : digits_value 10 (without_leading_plus text) < 2 ^ bits = h.0.1 in
    let up_to : digits_value 10 (without_leading_plus text) ≤ most = omega arith in
    let in_64 : digits_value 10 (without_leading_plus text) < 2 ^ 64 = omega arith in
    let least : 0 ≤ digits_value 10 (without_leading_plus text) = omega arith in
    let passes : is_unsigned_in 0 most text ≡ true = Accepts-accepts false (vp.Unsigned 0 most) text (h.0.0, in_64, least, up_to) in
    ap (λ (k : ℕ). Some k) h.1 ∙ sym (if_true (is_unsigned_in 0 most text) _ None passes)
number_read bits most text (Err e) size fits h =
    sym (if_false (is_unsigned_in 0 most text) _ None (λ passes.
    let given = accepts-Accepts false (vp.Unsigned 0 most) text passes in
    let up_to : digits_value 10 (without_leading_plus text) ≤ most = given.3 in
    let below : digits_value 10 (without_leading_plus text) < 2 ^ bits = omega arith in
    h (given.0, below)))
