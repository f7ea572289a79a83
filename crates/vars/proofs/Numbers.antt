-- The number of a value that a number stands for is that number.
use Rattle.std.proofs.Common.{◌≡◌, ◌≢◌, ℕ, ◌<◌, ◌^◌, Bool, true, false, cond, ltb, nat_eq, Result, Ok, Err, refl, sym, ap, ◌∙◌, arith}
use Rattle.std.proofs.lemmas.Bool.{eqb-true, eqb-false}
use Rattle.bits.specs.Fitting.{HasNumber}
use Rattle.bits.specs.Layout.{Codes}
use Rattle.vars.specs.declared.variable.NoValue.{NoValue}
use Rattle.vars.specs.declared.variable.NoValue.TheVariants.{Spare, OutOfRange}
use Rattle.vars.specs.declared.special_distance.OpenLength.TheVariants as lengths
use Rattle.vars.specs.declared.special_distance.StartPlace.TheVariants as places
use Rattle.vars.specs.declared.special_speed.AreaSpeed.TheVariants as area_speeds
use Rattle.vars.specs.declared.special_speed.ReleaseSpeed.TheVariants as release_speeds
use Rattle.vars.specs.declared.special_speed.StaticSpeed.TheVariants as static_speeds
use Rattle.vars.specs.Values.{duplicate_of, duplicate_number, direction_of, direction_number, scale_of, scale_number, delay_number, orientation_of, orientation_number, reaction_of, reaction_number, release_of, release_number, gradient_direction_of, gradient_direction_number, static_of, static_number, start_place_of, start_place_number, level_of, level_number, area_mode_of, area_mode_number, area_speed_of, area_speed_number, open_length_of, open_length_number}
use Rattle.vars.specs.Variables.{plain, up_to, flag, n_iter, l_packet, m_dup, q_dir, q_scale, q_front, q_linkorientation, q_linkreaction, v_release, q_gdir, v_static, start_place, m_leveltr, m_mamode, v_mamode, open_length}

pub record Numbered {A : Type 0} (codes : Codes NoValue A) : Type 0 where
  pub back : (v : ℕ) (x : A) → v < 2 ^ codes.width → codes.value v ≡ Ok x → codes.number x ≡ v

-- ---- by cases of the number

abbrev pub stands_for : {A : Type 0} → A → Result A NoValue
stands_for x = Ok x

pub same_ok : {A : Type 0} (y x : A) → stands_for y ≡ Ok x → y ≡ x
same_ok y x e = cc

pub none_ok : {A : Type 0} (e : NoValue) (x : A) → Err e ≡ stands_for x → ⊥
none_ok e x same = absurd cc

-- one number stands for a value, the others are as the rest says
is_or : {A : Type 0} (number : A → ℕ) (v k : ℕ) (y x : A) (rest : Result A NoValue) → number y ≡ k → (v ≢ k → rest ≡ Ok x → number x ≡ v)
    → (b : Bool) → nat_eq v k ≡ b → cond b (Ok y) rest ≡ Ok x → number x ≡ v
is_or number v k y x rest here others true e same = ap number (sym (same_ok y x same)) ∙ here ∙ sym (eqb-true v k e)
is_or number v k y x rest here others false e same = others (eqb-false v k e) same

unless_or : {A : Type 0} (number : A → ℕ) (v : ℕ) (x : A) (fault : NoValue) (rest : Result A NoValue) (b : Bool) → (rest ≡ Ok x → number x ≡ v)
    → cond b (Err fault) rest ≡ Ok x → number x ≡ v
unless_or number v x fault rest true others same = absurd (none_ok fault x same)
unless_or number v x fault rest false others same = others same

last : {A : Type 0} (number : A → ℕ) (v : ℕ) (y x : A) → number y ≡ v → stands_for y ≡ Ok x → number x ≡ v
last number v y x here same = ap number (sym (same_ok y x same)) ∙ here

-- each of two numbers stands for a value
two : {A : Type 0} (number : A → ℕ) (a b : A) → number a ≡ 0 → number b ≡ 1 → (v : ℕ) (x : A) → v < 2 → cond (nat_eq v 0) (stands_for a) (Ok b) ≡ Ok x → number x ≡ v
two number a b is_0 is_1 v x lt e = is_or number v 0 a x _ is_0 (λ n h. last number v b x (omega (arith, is_1)) h) _ refl e

-- each of three numbers stands for a value, and the others are spare
three : {A : Type 0} (number : A → ℕ) (a b c : A) → number a ≡ 0 → number b ≡ 1 → number c ≡ 2 → (v : ℕ) (x : A)
    → cond (nat_eq v 0) (stands_for a) (cond (nat_eq v 1) (Ok b) (cond (nat_eq v 2) (Ok c) (Err Spare))) ≡ Ok x → number x ≡ v
three number a b c is_0 is_1 is_2 v x e =
    is_or number v 0 a x _ is_0 (λ _. is_or number v 1 b x _ is_1 (λ _. is_or number v 2 c x _ is_2 (λ _ h. absurd (none_ok Spare x h)) _ refl) _ refl) _ refl e

-- one number is kept for a value, and each other one is the number of its own
kept_or : {A : Type 0} (number : A → ℕ) (k : ℕ) (y : A) (f : ℕ → A) → number y ≡ k → ((v : ℕ) → number (f v) ≡ v) → (v : ℕ) (x : A)
    → cond (nat_eq v k) (stands_for y) (Ok (f v)) ≡ Ok x → number x ≡ v
kept_or number k y f is_k own v x e = is_or number v k y x _ is_k (λ _ h. last number v (f v) x (own v) h) _ refl e

-- so with speeds, which end at 120
kept_or_speed : {A : Type 0} (number : A → ℕ) (k : ℕ) (y : A) (f : ℕ → A) → number y ≡ k → ((v : ℕ) → number (f v) ≡ v) → (v : ℕ) (x : A)
    → cond (nat_eq v k) (stands_for y) (cond (ltb 120 v) (Err OutOfRange) (Ok (f v))) ≡ Ok x → number x ≡ v
kept_or_speed number k y f is_k own v x e = is_or number v k y x _ is_k (λ _. unless_or number v x OutOfRange _ (ltb 120 v) (λ h. last number v (f v) x (own v) h)) _ refl e

-- ---- the variables

pub plain_back : (n : ℕ) → Numbered (plain n)
plain_back n = record { back = λ v x lt e. sym (same_ok v x e) }

pub up_to_back : (n most : ℕ) → Numbered (up_to n most)
up_to_back n most = record { back = λ v x lt e. unless_or (λ y. y) v x OutOfRange (Ok v) (ltb most v) (λ h. sym (same_ok v x h)) e }

flag_one : (v : ℕ) (b : Bool) → v < 2 → nat_eq v 1 ≡ b → flag.number b ≡ v
flag_one v true lt e = sym (eqb-true v 1 e)
flag_one v false lt e = let no = eqb-false v 1 e in omega arith

pub flag_back : Numbered flag
flag_back = record { back = λ v x lt e. ap flag.number (sym (same_ok (nat_eq v 1) x e)) ∙ flag_one v (nat_eq v 1) (omega arith) refl }

pub q_dir_back : Numbered q_dir
unfolding direction_of
q_dir_back = record { back = λ v x lt e. three direction_number _ _ _ refl refl refl v x e }

pub m_dup_back : Numbered m_dup
unfolding duplicate_of
m_dup_back = record { back = λ v x lt e. three duplicate_number _ _ _ refl refl refl v x e }

pub q_scale_back : Numbered q_scale
unfolding scale_of
q_scale_back = record { back = λ v x lt e. three scale_number _ _ _ refl refl refl v x e }

pub q_front_back : Numbered q_front
q_front_back = record { back = λ v x lt e. two delay_number _ _ refl refl v x (omega arith) e }

pub q_linkorientation_back : Numbered q_linkorientation
unfolding orientation_of
q_linkorientation_back = record { back = λ v x lt e. two orientation_number _ _ refl refl v x (omega arith) e }

pub q_linkreaction_back : Numbered q_linkreaction
unfolding reaction_of
q_linkreaction_back = record { back = λ v x lt e. three reaction_number _ _ _ refl refl refl v x e }

pub v_release_back : Numbered v_release
unfolding release_of
v_release_back = record {
  back = λ v x lt e. is_or release_number v 126 _ x _ refl (λ _ h. kept_or_speed release_number 127 _ release_speeds.Speed refl (λ _. refl) v x h) _ refl e;
}

pub q_gdir_back : Numbered q_gdir
unfolding gradient_direction_of
q_gdir_back = record { back = λ v x lt e. two gradient_direction_number _ _ refl refl v x (omega arith) e }

pub v_static_back : Numbered v_static
unfolding static_of
v_static_back = record { back = λ v x lt e. kept_or_speed static_number 127 _ static_speeds.Speed refl (λ _. refl) v x e }

pub start_place_back : Numbered start_place
unfolding start_place_of
start_place_back = record { back = λ v x lt e. kept_or start_place_number 32767 _ places.At refl (λ _. refl) v x e }

pub m_leveltr_back : Numbered m_leveltr
unfolding level_of
m_leveltr_back = record {
  back = λ v x lt e. is_or level_number v 0 _ x _ refl (λ a. is_or level_number v 1 _ x _ refl (λ b. is_or level_number v 2 _ x _ refl (λ c. is_or level_number v 3 _ x _ refl (λ d. is_or level_number v 4 _ x _ refl (λ k h. absurd (none_ok Spare x h)) _ refl) _ refl) _ refl) _ refl) _ refl e;
}

pub m_mamode_back : Numbered m_mamode
unfolding area_mode_of
m_mamode_back = record {
  back = λ v x lt e. is_or area_mode_number v 0 _ x _ refl (λ n. is_or area_mode_number v 1 _ x _ refl (λ k h. absurd (none_ok Spare x h)) _ refl) _ refl e;
}

pub v_mamode_back : Numbered v_mamode
unfolding area_speed_of
v_mamode_back = record { back = λ v x lt e. kept_or_speed area_speed_number 127 _ area_speeds.Speed refl (λ _. refl) v x e }

pub open_length_back : Numbered open_length
unfolding open_length_of
open_length_back = record { back = λ v x lt e. kept_or open_length_number 32767 _ lengths.Length refl (λ _. refl) v x e }

-- ---- values that fit

pub flag_has : (b : Bool) → HasNumber flag b
flag_has true = record { small = omega arith; own = refl }
flag_has false = record { small = omega arith; own = refl }

pub n_iter_has : (n : ℕ) → n < 2 ^ 5 → HasNumber n_iter n
n_iter_has n lt = record { small = lt; own = refl }

pub l_packet_has : (n : ℕ) → n < 2 ^ 13 → HasNumber l_packet n
l_packet_has n lt = record { small = lt; own = refl }
