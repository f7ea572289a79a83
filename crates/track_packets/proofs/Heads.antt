-- The head of a packet that is spelled: what the listing of packets goes by. Widths are bits.
use Rattle.std.proofs.Common.{◌≡◌, ℕ, ◌+◌, ◌*◌, ◌^◌, ◌<◌, ◌≤◌, nat_eq, Bool, true, false, if◌then◌else◌, List, [], ◌∷◌, ◌++◌, Option, Some, None, length, length-append, take, drop, refl, sym, ap, ◌∙◌, arith, append_assoc}
use Rattle.std.specs.Option.{option_map_or}
use Rattle.std.proofs.lemmas.Bool.{eqb-false, le-ltb}
use Rattle.std.proofs.lemmas.List.{append-nil, take_at, drop_at, take_all}
use Rattle.bits.specs.Bits.{bits_of, number, number_bits}
use Rattle.bits.specs.Layout.{Layout, done, unless, field, run, choice, kind, part, inner, measured, more, reported_as, then_, Begins, Spells}
use Rattle.bits.specs.Writing.{value, each_taken, with_bits, appended}
use Rattle.bits.proofs.Numbers.{length-number_bits, number-of_bits, number-append}
use Rattle.bits.proofs.WritingLaws.{number_below}
use Rattle.vars.proofs.Numbers.{plain_back}
use Rattle.packets.specs.Layouts.{national_values_description, linking_description, movement_authority_description, gradients_description, static_speeds_description, level_transition_description, speed_restriction_description, restriction_revocation_description, mode_profile_description, skipped_description}
use Rattle.packets.specs.Packets.{packet, packet_of, packet_taken, length_of, number_of}
use Rattle.packets.specs.declared.packet.Packet.{Packet}
use Rattle.packets.specs.declared.packet.Packet.TheVariants as packets
use Rattle.packets.proofs.AnyPacket.{spelled-packet, length_of-least}
use Rattle.track_packets.specs.Listing.{number_at, head_at, length_at, listed, listing_of, ended}
use Rattle.track_packets.specs.declared.listing.Listing.{Listing}
use Rattle.track_packets.specs.declared.listing.ListingEnd.TheVariants.{CutOff}
use Rattle.track_packets.proofs.Steps.{Stands, head_front}

-- ---- what is appended comes after what was there

abbrev Longer : List Bool → List Bool → Type 0
Longer front all = (more : List Bool) × (all ≡ front ++ more)

itself : (front : List Bool) → Longer front front
itself front = ([], sym (append-nil front))

further : (a b c : List Bool) → Longer a b → Longer b c → Longer a c
further a b c one two = (one.0 ++ two.0, two.1 ∙ ap (λ f. f ++ two.0) one.1 ∙ append_assoc a one.0 two.0)

each_longer : {D : Type 0} (w : D → List Bool → List Bool) (xs : List D) (front : List Bool) → ((x : D) (left : List Bool) → Longer left (w x left)) → Longer front (each_taken w xs front)
unfolding each_taken
each_longer w [] front one = itself front
each_longer w (x ∷ xs) front one = further front (w x front) (each_taken w xs (w x front)) (one x front) (each_longer w xs (w x front) one)

option_longer : {D : Type 0} (w : D → List Bool) (o : Option D) (none front : List Bool) → Longer front none → ((x : D) → Longer front (w x)) → Longer front (option_map_or w o none)
option_longer w None none front n one = n
option_longer w (Some x) none front n one = one x

longer : {F C A : Type 0} (m : Layout F C A) (c : C) (front : List Bool) → Longer front (appended m c front)
longer (done x) c front = itself front
longer (unless b f) c front = itself front
longer (field name f g codes get) c front = (number_bits codes.width (codes.number (get c)), refl)
longer (run n f get) c front = (get c, refl)
longer (choice true m n) c front = longer m c front
longer (choice false m n) c front = longer n c front
longer (kind make get m) c front = option_longer (λ d. appended m d front) (get c) front front (itself front) (λ d. longer m d front)
longer (part given m get) c front = option_longer (λ d. appended m d front) (get c) front front (itself front) (λ d. longer m d front)
longer (inner m get) c front = longer m (get c) front
longer (measured f before m) c front = longer m c front
longer (more n m before get) c front = each_longer (λ x left. appended m x left) (drop (length before) (get c)) front (λ x left. longer m x left)
longer (reported_as g m) c front = longer m c front
longer (then_ m f) c front =
    option_longer (λ x. appended (f x) c (appended m c front)) (value m c) (appended m c front) front (longer m c front)
    (λ x. further front (appended m c front) (appended (f x) c (appended m c front)) (longer m c front) (longer (f x) c (appended m c front)))

-- ---- the first field after a number, and the one after it

-- what a layout begins with stands in front
abbrev First : {F C A : Type 0} → Layout F C A → C → List Bool → Type 0
First (then_ m f) c front = Longer (appended m c front) (appended (then_ m f) c front)
First other c front = Unit {0}

first : {F C A : Type 0} (m : Layout F C A) (c : C) (front : List Bool) → First m c front
first (then_ m f) c front =
    option_longer (λ x. appended (f x) c (appended m c front)) (value m c) (appended m c front) (appended m c front) (itself (appended m c front))
    (λ x. longer (f x) c (appended m c front))
first other c front = tt

-- what the layout after its first part begins with
abbrev Second : {F C A : Type 0} → Layout F C A → C → List Bool → Type 0
Second (then_ m f) c front = (x : _) → value m c ≡ Some x → First (f x) c (appended m c front)
Second other c front = Unit {0}

second : {F C A : Type 0} (m : Layout F C A) (c : C) (front : List Bool) → Second m c front
second (then_ m f) c front = λ x e. first (f x) c (appended m c front)
second other c front = tt

-- ---- the head of a packet

-- Q_DIR and L_PACKET come after the number
abbrev HasHead : ℕ → List Bool → List Bool → Type 0
HasHead reported front all = (d : ℕ) × Longer ((front ++ number_bits 2 d) ++ number_bits 13 reported) all

shorten : (reported d s : ℕ) (front all : List Bool) → Longer (((front ++ number_bits 2 d) ++ number_bits 13 reported) ++ number_bits 2 s) all → HasHead reported front all
shorten reported d s front all l =
    (d, further ((front ++ number_bits 2 d) ++ number_bits 13 reported) (((front ++ number_bits 2 d) ++ number_bits 13 reported) ++ number_bits 2 s) all (number_bits 2 s, refl) l)

packet_head : (reported : ℕ) (p : Packet) (front : List Bool) → HasHead reported front (packet_taken with_bits reported p front)
unfolding national_values_description linking_description movement_authority_description gradients_description static_speeds_description level_transition_description speed_restriction_description restriction_revocation_description mode_profile_description skipped_description
packet_head reported (packets.NationalValues c) front = shorten reported _ _ front _ (first (national_values_description (λ _. reported)) c front)
packet_head reported (packets.Linking c) front = shorten reported _ _ front _ (first (linking_description (λ _. reported)) c front)
packet_head reported (packets.MovementAuthority c) front = shorten reported _ _ front _ (first (movement_authority_description (λ _. reported)) c front)
packet_head reported (packets.Gradients c) front = shorten reported _ _ front _ (first (gradients_description (λ _. reported)) c front)
packet_head reported (packets.StaticSpeeds c) front = shorten reported _ _ front _ (first (static_speeds_description (λ _. reported)) c front)
packet_head reported (packets.LevelTransition c) front = shorten reported _ _ front _ (first (level_transition_description (λ _. reported)) c front)
packet_head reported (packets.SpeedRestriction c) front = shorten reported _ _ front _ (first (speed_restriction_description (λ _. reported)) c front)
packet_head reported (packets.RestrictionRevocation c) front = (_, second (restriction_revocation_description (λ _. reported)) c front c.direction refl)
packet_head reported (packets.ModeProfile c) front = shorten reported _ _ front _ (first (mode_profile_description (λ _. reported)) c front)
packet_head reported (packets.Other c) front = (_, second (skipped_description c.number (λ _. reported)) c front c.direction refl)

-- ---- a spelled packet stands where it is spelled

pub record Headed (p : Packet) (bits : List Bool) : Type 0 where
  pub stands : Stands bits
  pub length_is : length_at bits ≡ length_of p

-- L_PACKET of bits that begin with so many of a head
length_reported : (n reported d : ℕ) (bits : List Bool) → reported < 8192 → Longer ((number_bits 8 n ++ number_bits 2 d) ++ number_bits 13 reported) bits → length_at bits ≡ reported
length_reported n reported d bits small l =
    let following = number_bits 2 d ++ number_bits 13 reported in
    let u = (number_bits 8 n ++ number_bits 2 d) ++ number_bits 13 reported in
    let long : length u ≡ 23 = omega (arith, length-append (number_bits 8 n ++ number_bits 2 d) (number_bits 13 reported), length-append (number_bits 8 n) (number_bits 2 d), length-number_bits 8 n, length-number_bits 2 d, length-number_bits 13 reported) in
    let fifteen : length following ≤ 15 = omega (arith, length-append (number_bits 2 d) (number_bits 13 reported), length-number_bits 2 d, length-number_bits 13 reported) in
    let head : head_at bits ≡ number (number_bits 2 d) * 8192 + reported =
    ap head_at l.1 ∙ head_front u l.0 (omega arith)
    ∙ ap (λ (b : List Bool). number (take 15 (drop 8 b))) (append_assoc (number_bits 8 n) (number_bits 2 d) (number_bits 13 reported))
    ∙ ap (λ (b : List Bool). number (take 15 b)) (drop_at (number_bits 8 n) following 8 (length-number_bits 8 n))
    ∙ ap number (take_all 15 following fifteen)
    ∙ number-append (number_bits 2 d) (number_bits 13 reported)
    ∙ ap (λ k. number (number_bits 2 d) * 2 ^ k + number (number_bits 13 reported)) (length-number_bits 13 reported)
    ∙ ap (λ k. number (number_bits 2 d) * 8192 + k) (number-of_bits 13 reported small) in
    omega (arith, head)

no_255 : (n : ℕ) (p : Packet) (bits : List Bool) → Spells (packet_of n) p bits → nat_eq n 255 ≡ false
unfolding packet_of
no_255 n p bits s = s.4.0

number_reported : (p : Packet) (front rest : List Bool) → Spells packet p front → (number_at (front ++ rest) ≡ 255 → ⊥)
unfolding packet
number_reported p front rest s =
    let low : number s.1 < 2 ^ 8 = number_below 8 s.1 s.4.0 in
    let read : s.0 ≡ number s.1 = (plain_back 8).back (number s.1) s.0 low s.4.1 in
    let whole : front ++ rest ≡ s.1 ++ (s.2 ++ rest) = ap (λ f. f ++ rest) s.3 ∙ append_assoc s.1 s.2 rest in
    let is : number_at (front ++ rest) ≡ s.0 = ap number_at whole ∙ ap number (take_at s.1 (s.2 ++ rest) 8 s.4.0) ∙ sym read in
    λ e. eqb-false s.0 255 (no_255 s.0 p s.2 s.5) (sym is ∙ e)

pub headed : (p : Packet) (bits rest : List Bool) → Begins packet p bits rest → Headed p bits
headed p bits rest b =
    let w = spelled-packet p b.front b.spelled in
    let front_is : b.front ≡ packet_taken with_bits (length_of p) p (number_bits 8 (number_of p)) = w.written [] in
    let h = packet_head (length_of p) p (number_bits 8 (number_of p)) in
    let all : Longer ((number_bits 8 (number_of p) ++ number_bits 2 h.0) ++ number_bits 13 (length_of p)) bits =
    (h.1.0 ++ rest, b.parts ∙ ap (λ f. f ++ rest) (front_is ∙ h.1.1) ∙ append_assoc ((number_bits 8 (number_of p) ++ number_bits 2 h.0) ++ number_bits 13 (length_of p)) h.1.0 rest) in
    let is = length_reported (number_of p) (length_of p) h.0 bits w.small all in
    let least = length_of-least p in
    record {
      stands = record {
        no_mark = λ e. number_reported p b.front rest b.spelled (ap number_at (sym b.parts) ∙ e);
        head = omega (arith, is, least);
        whole = omega (arith, is, ap length b.parts, length-append b.front rest, w.length_is);
      };
      length_is = is;
    }

-- ---- the listing of a telegram whose header is whole

abbrev listing_by : Bool → Listing → Listing
listing_by b l = if b then ended (CutOff 0) else l

pub listing_long : (bytes : List ℕ) → 50 ≤ length (bits_of bytes) → listing_of bytes ≡ listed 34 50 (drop 50 (bits_of bytes))
listing_long bytes le = ap (λ b. listing_by b (listed 34 50 (drop 50 (bits_of bytes)))) (le-ltb (length (bits_of bytes)) 50 le)
