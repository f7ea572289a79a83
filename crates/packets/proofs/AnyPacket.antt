-- What spells a packet, whichever it is, is what is appended for it; and which packets have a spelling.
use Rattle.std.proofs.Common.{◌≡◌, ◌∙◌, ap, refl, sym, subst, arith, nat_eq, length, List, Bool, true, false, ◌+◌, ◌<◌, ◌≤◌, ◌^◌, ◌++◌, ◌↔◌, ℕ, [], Option, Ok, length-append}
use Rattle.std.proofs.lemmas.Bool.{eqb-true, eqb-false, ne_eqb}
use Rattle.bits.specs.Bits.{number, number_bits}
use Rattle.bits.specs.Layout.{Layout, Spells, choice, kind}
use Rattle.bits.specs.Writing.{size, with_bits, appended}
use Rattle.bits.proofs.Numbers.{length-number_bits, number-of_bits}
use Rattle.bits.proofs.WritingLaws.{glue, glue_none, field_bits, number_below}
use Rattle.vars.proofs.Numbers.{plain_back}
use Rattle.packets.specs.Parts.{description}
use Rattle.packets.specs.Layouts.{national_values_description, linking_description, movement_authority_description, gradients_description, static_speeds_description, level_transition_description, speed_restriction_description, restriction_revocation_description, mode_profile_description, skipped_description}
use Rattle.packets.specs.Packets.{length_of, number_of, packet_taken, as_packet, as_national_values, as_linking, as_movement_authority, as_gradients, as_static_speeds, as_level_transition, as_speed_restriction, as_revocation, as_mode_profile, as_other, body_of, packet_of, packet}
use Rattle.packets.specs.Spelling.{IsSkipped, PacketFits}
use Rattle.packets.specs.declared.fault.PacketFault.{PacketFault}
use Rattle.packets.specs.declared.packet.Packet.{Packet}
use Rattle.packets.specs.declared.packet.Packet.TheVariants as packets
use Rattle.packets.proofs.StaticSteps.{speeds_size}
use Rattle.packets.proofs.Reported.{Describes, reported, spelled_so}
use Rattle.packets.proofs.ReportedOthers.{reported-level_transition, reported-speed_restriction, reported-restriction_revocation, reported-mode_profile, reported-skipped}
use Rattle.packets.proofs.ReportedPackets.{reported-national_values, reported-linking, reported-movement_authority, reported-gradients, reported-static_speeds}

-- what a spelling of a packet after its number is
record Whole (n : ℕ) (q : ℕ × Packet) (bits : List Bool) : Type 0 where
  length_is : q.0 ≡ length_of q.1
  small : q.0 < 2 ^ 13
  number_is : number_of q.1 ≡ n
  fits : PacketFits q.1
  written : (front : List Bool) → front ++ bits ≡ packet_taken with_bits q.0 q.1 front

-- one of two layouts
pick : {F C A : Type 0} {W : Type 0} (b : Bool) (m n : Layout F C A) (x : A) (bits : List Bool) → (b ≡ true → Spells m x bits → W) → (b ≡ false → Spells n x bits → W) → Spells (choice b m n) x bits → W
pick true m n x bits here others s = here refl s
pick false m n x bits here others s = others refl s

-- a packet of one kind
record Kind {C : Type 0} (make : C → Packet) (m : (C → ℕ) → Layout PacketFault C (ℕ × C)) (P : C → Type 0) (n : ℕ) : Type 0 where
  length_is : (c : C) → P c → length_of (make c) ≡ 8 + size (m (λ _. 0)) c
  number_is : (c : C) → P c → number_of (make c) ≡ n
  fits_is : (c : C) → P c → PacketFits (make c)
  taken_is : (c : C) (t : ℕ) (front : List Bool) → P c → packet_taken with_bits t (make c) front ≡ appended (m (λ _. t)) c front

one : {C : Type 0} (make : C → Packet) (get : Packet → Option C) (m : (C → ℕ) → Layout PacketFault C (ℕ × C)) (R P : C → Type 0) (n : ℕ) → Describes m R P → Kind make m P n
    → (q : ℕ × Packet) (bits : List Bool) → q.0 ≡ 8 + length bits → Spells (kind (as_packet make) get (description m)) q bits → Whole n q bits
one make get m R P n t k q bits all s =
    subst (λ (r : ℕ × Packet). r.0 ≡ 8 + length bits → Whole n r bits) (sym s.1) (λ long.
    let w = reported m R P t s.0 bits s.2 long in
    record {
      length_is = w.length_is ∙ sym (k.length_is s.0.1 w.ready);
      small = w.small;
      number_is = k.number_is s.0.1 w.ready;
      fits = k.fits_is s.0.1 w.ready;
      written = λ front. w.written front ∙ sym (k.taken_is s.0.1 s.0.0 front w.ready);
    }) all

-- a packet with a layout of its own, known by its number
known : {C : Type 0} (make : C → Packet) (get : Packet → Option C) (m : (C → ℕ) → Layout PacketFault C (ℕ × C)) (R P : C → Type 0) (k n : ℕ) → Describes m R P → Kind make m P k
    → (q : ℕ × Packet) (bits : List Bool) → q.0 ≡ 8 + length bits → nat_eq n k ≡ true → Spells (kind (as_packet make) get (description m)) q bits → Whole n q bits
known make get m R P k n t its q bits all is s =
    subst (λ (i : ℕ). Whole i q bits) (sym (eqb-true n k is)) (one make get m R P k t its q bits all s)

abbrev same : {C : Type 0} (make : C → Packet) (m : (C → ℕ) → Layout PacketFault C (ℕ × C)) (P : C → Type 0) (n : ℕ) → ((c : C) → length_of (make c) ≡ 8 + size (m (λ _. 0)) c) → ((c : C) → number_of (make c) ≡ n)
    → ((c : C) → P c → PacketFits (make c)) → ((c : C) (t : ℕ) (front : List Bool) → packet_taken with_bits t (make c) front ≡ appended (m (λ _. t)) c front) → Kind make m P n
same make m P n length_is number_is fits_is taken_is = record { length_is = λ c _. length_is c; number_is = λ c _. number_is c; fits_is = fits_is; taken_is = λ c t front _. taken_is c t front }

whole : (n : ℕ) (q : ℕ × Packet) (bits : List Bool) → n < 2 ^ 8 → nat_eq n 255 ≡ false → q.0 ≡ 8 + length bits → Spells (body_of n) q bits → Whole n q bits
unfolding body_of
whole n q bits small no_end all =
    pick (nat_eq n 3) _ _ q bits (known packets.NationalValues as_national_values national_values_description _ _ 3 n reported-national_values (same _ _ _ 3 (λ _. refl) (λ _. refl) (λ _ h. h) (λ _ _ _. refl)) q bits all) (λ no_3.
    pick (nat_eq n 5) _ _ q bits (known packets.Linking as_linking linking_description _ _ 5 n reported-linking (same _ _ _ 5 (λ _. refl) (λ _. refl) (λ _ h. h) (λ _ _ _. refl)) q bits all) (λ no_5.
    pick (nat_eq n 12) _ _ q bits (known packets.MovementAuthority as_movement_authority movement_authority_description _ _ 12 n reported-movement_authority (same _ _ _ 12 (λ _. refl) (λ _. refl) (λ _ h. h) (λ _ _ _. refl)) q bits all) (λ no_12.
    pick (nat_eq n 21) _ _ q bits (known packets.Gradients as_gradients gradients_description _ _ 21 n reported-gradients (same _ _ _ 21 (λ _. refl) (λ _. refl) (λ _ h. h) (λ _ _ _. refl)) q bits all) (λ no_21.
    pick (nat_eq n 27) _ _ q bits (known packets.StaticSpeeds as_static_speeds static_speeds_description _ _ 27 n reported-static_speeds (same _ _ _ 27 (λ _. refl) (λ _. refl) (λ _ h. h) (λ _ _ _. refl)) q bits all) (λ no_27.
    pick (nat_eq n 41) _ _ q bits (known packets.LevelTransition as_level_transition level_transition_description _ _ 41 n reported-level_transition (same _ _ _ 41 (λ _. refl) (λ _. refl) (λ _ h. h) (λ _ _ _. refl)) q bits all) (λ no_41.
    pick (nat_eq n 65) _ _ q bits (known packets.SpeedRestriction as_speed_restriction speed_restriction_description _ _ 65 n reported-speed_restriction (same _ _ _ 65 (λ _. refl) (λ _. refl) (λ _ h. h) (λ _ _ _. refl)) q bits all) (λ no_65.
    pick (nat_eq n 66) _ _ q bits (known packets.RestrictionRevocation as_revocation restriction_revocation_description _ _ 66 n reported-restriction_revocation (same _ _ _ 66 (λ _. refl) (λ _. refl) (λ _ h. h) (λ _ _ _. refl)) q bits all) (λ no_66.
    pick (nat_eq n 80) _ _ q bits (known packets.ModeProfile as_mode_profile mode_profile_description _ _ 80 n reported-mode_profile (same _ _ _ 80 (λ _. refl) (λ _. refl) (λ _ h. h) (λ _ _ _. refl)) q bits all) (λ no_80.
    one packets.Other as_other (skipped_description n) _ _ n (reported-skipped n) (record {
      length_is = λ c h. ap (λ (i : ℕ). 8 + size (skipped_description i (λ _. 0)) c) h.0;
      number_is = λ c h. h.0;
      fits_is = λ c h.
          let is : n ≡ c.number = sym h.0 in (
            record { small = subst (λ (i : ℕ). i < 2 ^ 8) is small; own = refl },
            h.1,
            subst IsSkipped is (eqb-false n 3 no_3, eqb-false n 5 no_5, eqb-false n 12 no_12, eqb-false n 21 no_21, eqb-false n 27 no_27, eqb-false n 41 no_41, eqb-false n 65 no_65, eqb-false n 66 no_66, eqb-false n 80 no_80, eqb-false n 255 no_end),
          );
      taken_is = λ c t front h. ap (λ (i : ℕ). appended (skipped_description i (λ _. t)) c front) h.0;
    }) q bits all)))))))))

-- what a spelling of a packet is
pub record SpelledAs (p : Packet) (bits : List Bool) : Type 0 where
  pub length_is : length bits ≡ length_of p
  pub small : length_of p < 2 ^ 13
  pub fits : PacketFits p
  pub written : (front : List Bool) → front ++ bits ≡ packet_taken with_bits (length_of p) p (front ++ number_bits 8 (number_of p))

-- a packet whose number was read
spelled-packet_of : (n : ℕ) (p : Packet) (bits : List Bool) → n < 2 ^ 8 → Spells (packet_of n) p bits
    → (8 + length bits ≡ length_of p) × (length_of p < 2 ^ 13) × (number_of p ≡ n) × PacketFits p × ((front : List Bool) → front ++ bits ≡ packet_taken with_bits (length_of p) p front)
unfolding packet_of
spelled-packet_of n p bits small s =
    let measured = s.5 in
    let long : length bits ≡ length s.2 = omega (arith, ap length s.3, length-append s.1 s.2, ap length s.4.1) in
    let w = whole n (measured.0, p) s.2 small s.4.0 (measured.2) measured.1 in (
      omega (arith, long, w.length_is, measured.2),
      subst (λ (i : ℕ). i < 2 ^ 13) w.length_is w.small,
      w.number_is,
      w.fits,
      λ front. glue_none front bits s.1 s.2 _ s.3 s.4.1 (w.written front) ∙ ap (λ (i : ℕ). packet_taken with_bits i p front) w.length_is,
    )

pub spelled-packet : (p : Packet) (bits : List Bool) → Spells packet p bits → SpelledAs p bits
unfolding packet
spelled-packet p bits s =
    let low : number s.1 < 2 ^ 8 = number_below 8 s.1 s.4.0 in
    let read : s.0 ≡ number s.1 = (plain_back 8).back (number s.1) s.0 low s.4.1 in
    let following = spelled-packet_of s.0 p s.2 (subst (λ (i : ℕ). i < 2 ^ 8) (sym read) low) s.5 in
    let number_is : s.1 ≡ number_bits 8 (number_of p) = field_bits 8 (number_of p) s.1 s.4.0 (following.2 ∙ read) in
    record {
      length_is = omega (arith, ap length s.3, length-append s.1 s.2, s.4.0, following.0);
      small = following.1;
      fits = following.3;
      written = λ front. glue front bits s.1 s.2 (front ++ number_bits 8 (number_of p)) _ s.3 (ap (λ (t : List Bool). front ++ t) number_is) (following.4 (front ++ number_bits 8 (number_of p)));
    }

-- ---- which packets have a spelling

-- the number, and what comes after it
after_number : (n : ℕ) (p : Packet) (t : ℕ) (bits : List Bool) → n < 2 ^ 8 → nat_eq n 255 ≡ false → Spells (body_of n) (t, p) bits → t ≡ 8 + length bits → (all : List Bool) × Spells packet p all
unfolding packet packet_of
after_number n p t bits small no_end s long = (
  number_bits 8 n ++ bits,
  (n, number_bits 8 n, bits, refl, (length-number_bits 8 n, ap Ok (number-of_bits 8 n small)), (tt, [], bits, refl, (no_end, refl), (t, s, long))),
)

of_kind : {C : Type 0} (make : C → Packet) (get : Packet → Option C) (m : (C → ℕ) → Layout PacketFault C (ℕ × C)) (R P : C → Type 0) (n : ℕ) → Describes m R P → n < 2 ^ 8 → nat_eq n 255 ≡ false
    → ((q : ℕ × Packet) (bits : List Bool) → Spells (kind (as_packet make) get (description m)) q bits → Spells (body_of n) q bits)
    → (c : C) → 8 + size (m (λ _. 0)) c < 2 ^ 13 → P c → (all : List Bool) × Spells packet (make c) all
of_kind make get m R P n describes small no_end there c short fit =
    let t : ℕ = 8 + size (m (λ _. 0)) c in
    let a = spelled_so m R P describes t c refl short fit in
    after_number n (make c) t a.0 small no_end (there (t, make c) a.0 ((t, c), refl, a.1)) a.2

-- a packet that is skipped
skip : {F C A : Type 0} (b : Bool) (m n : Layout F C A) (x : A) (bits : List Bool) → b ≡ false → Spells n x bits → Spells (choice b m n) x bits
skip true m n x bits off s = absurd cc
skip false m n x bits off s = s

skipped_body : (n : ℕ) (q : ℕ × Packet) (bits : List Bool) → IsSkipped n → Spells (kind (as_packet packets.Other) as_other (description (skipped_description n))) q bits → Spells (body_of n) q bits
unfolding body_of
skipped_body n q bits k s =
    skip (nat_eq n 3) _ _ q bits (ne_eqb n 3 k.0) (skip (nat_eq n 5) _ _ q bits (ne_eqb n 5 k.1) (skip (nat_eq n 12) _ _ q bits (ne_eqb n 12 k.2) (skip (nat_eq n 21) _ _ q bits (ne_eqb n 21 k.3) (
    skip (nat_eq n 27) _ _ q bits (ne_eqb n 27 k.4) (skip (nat_eq n 41) _ _ q bits (ne_eqb n 41 k.5) (skip (nat_eq n 65) _ _ q bits (ne_eqb n 65 k.6) (skip (nat_eq n 66) _ _ q bits (ne_eqb n 66 k.7) (
    skip (nat_eq n 80) _ _ q bits (ne_eqb n 80 k.8) s))))))))

packet_spelled : (p : Packet) → length_of p < 2 ^ 13 → PacketFits p → (bits : List Bool) × Spells packet p bits
unfolding body_of
packet_spelled (packets.NationalValues p) short fit = of_kind packets.NationalValues as_national_values national_values_description _ _ 3 reported-national_values (omega arith) refl (λ q bits s. s) p short fit
packet_spelled (packets.Linking p) short fit = of_kind packets.Linking as_linking linking_description _ _ 5 reported-linking (omega arith) refl (λ q bits s. s) p short fit
packet_spelled (packets.MovementAuthority p) short fit = of_kind packets.MovementAuthority as_movement_authority movement_authority_description _ _ 12 reported-movement_authority (omega arith) refl (λ q bits s. s) p short fit
packet_spelled (packets.Gradients p) short fit = of_kind packets.Gradients as_gradients gradients_description _ _ 21 reported-gradients (omega arith) refl (λ q bits s. s) p short fit
packet_spelled (packets.StaticSpeeds p) short fit = of_kind packets.StaticSpeeds as_static_speeds static_speeds_description _ _ 27 reported-static_speeds (omega arith) refl (λ q bits s. s) p short fit
packet_spelled (packets.LevelTransition p) short fit = of_kind packets.LevelTransition as_level_transition level_transition_description _ _ 41 reported-level_transition (omega arith) refl (λ q bits s. s) p short fit
packet_spelled (packets.SpeedRestriction p) short fit = of_kind packets.SpeedRestriction as_speed_restriction speed_restriction_description _ _ 65 reported-speed_restriction (omega arith) refl (λ q bits s. s) p short fit
packet_spelled (packets.RestrictionRevocation p) short fit = of_kind packets.RestrictionRevocation as_revocation restriction_revocation_description _ _ 66 reported-restriction_revocation (omega arith) refl (λ q bits s. s) p short fit
packet_spelled (packets.ModeProfile p) short fit = of_kind packets.ModeProfile as_mode_profile mode_profile_description _ _ 80 reported-mode_profile (omega arith) refl (λ q bits s. s) p short fit
packet_spelled (packets.Other p) short fit =
    of_kind packets.Other as_other (skipped_description p.number) _ _ p.number (reported-skipped p.number) fit.0.small (ne_eqb p.number 255 fit.2.9) (λ q bits s. skipped_body p.number q bits fit.2 s) p short (refl, fit.1)

-- A packet has a spelling exactly where L_PACKET can say its bits and it is as its layout wants it.
pub has_spelling : (p : Packet) → ((length_of p < 2 ^ 13) × PacketFits p) ↔ ((bits : List Bool) × Spells packet p bits)
has_spelling p = (λ h. packet_spelled p h.0 h.1, λ s. let a = spelled-packet p s.0 s.1 in (a.small, a.fits))

-- each packet has its head
pub length_of-least : (p : Packet) → 23 ≤ length_of p
unfolding national_values_description linking_description movement_authority_description gradients_description level_transition_description speed_restriction_description restriction_revocation_description mode_profile_description skipped_description
length_of-least (packets.NationalValues p) = omega arith
length_of-least (packets.Linking p) = omega arith
length_of-least (packets.MovementAuthority p) = omega arith
length_of-least (packets.Gradients p) = omega arith
length_of-least (packets.StaticSpeeds p) = omega (arith, speeds_size p)
length_of-least (packets.LevelTransition p) = omega arith
length_of-least (packets.SpeedRestriction p) = omega arith
length_of-least (packets.RestrictionRevocation p) = omega arith
length_of-least (packets.ModeProfile p) = omega arith
length_of-least (packets.Other p) = omega arith
