-- The bits of a telegram.
use Rattle.std.proofs.Common.{◌≡◌, eq-eqb, ℕ, ◌+◌, ◌*◌, ◌<◌, ◌≤◌, ◌^◌, ◌==◌, nat_eq, Bool, true, false, List, [], ◌∷◌, ◌++◌, Option, Some, None, Ok, length, refl, sym, ap, subst, ◌∙◌, arith, length-append}
use Rattle.std.proofs.lemmas.Bool.{eqb-true}
use Rattle.std.proofs.lemmas.List.{append-nil}
use Rattle.bits.specs.Bits.{number, number_bits}
use Rattle.bits.specs.Fitting.{HasNumber}
use Rattle.bits.specs.Layout.{Codes, Spells, Begins, choice, done, kind, reported_as}
use Rattle.bits.proofs.Found.{Back, Appends, element, length-spelled}
use Rattle.bits.proofs.Numbers.{length-number_bits}
use Rattle.bits.proofs.WritingLaws.{field_bits, number_below}
use Rattle.vars.specs.declared.variable.NoValue.{NoValue}
use Rattle.vars.proofs.Numbers.{Numbered, plain_back, flag_back, m_dup_back}
use Rattle.packets.specs.Packets.{packet, packet_of, length_of}
use Rattle.packets.specs.declared.packet.Packet.{Packet}
use Rattle.packets.proofs.AnyPacket.{spelled-packet, length_of-least}
use Rattle.telegram.specs.Faults.{telegram_fault}
use Rattle.telegram.specs.Sequences.{BeginsPackets, length_of_all}
use Rattle.telegram.specs.Telegrams.{only, header, next_packet, SpellsPackets, SpellsTelegram}
use Rattle.telegram.specs.declared.fault.TelegramFault.{TelegramFault}
use Rattle.telegram.specs.declared.header.Header.{Header}
use Rattle.telegram.specs.declared.message.Telegram.{Telegram}

-- ---- the header

abbrev back : {A : Type 0} {codes : Codes NoValue A} → Numbered codes → Back codes
back n = record { back = n.back }

only_number : (n v k : ℕ) (fault : TelegramFault) (x : Unit {0}) (b : Bool) → nat_eq k v ≡ b → (only n v fault).value k ≡ Ok x → v ≡ k
only_number n v k fault x true e same = sym (eqb-true k v e)
only_number n v k fault x false e same = absurd (let h = rw e at same in cc)

only_back : (n v : ℕ) (fault : TelegramFault) → Back (only n v fault)
only_back n v fault = record { back = λ k x lt e. only_number n v k fault x (nat_eq k v) refl e }

pub only_has : (n v : ℕ) (fault : TelegramFault) → v < 2 ^ n → HasNumber (only n v fault) tt
only_has n v fault lt = record { small = lt; own = rw (eq-eqb v v refl) refl }

pub found-header : Appends header
unfolding header
found-header = element _ (
  only_back 1 1 _,
  λ _ _. (
    only_back 7 16 _,
    λ _ _. (
      only_back 1 0 _,
      λ _ _. (
        back (plain_back 3),
        λ _ _. (
          back (plain_back 3),
          λ _ _ _. (
            back m_dup_back,
            λ _ _. (
              back (plain_back 8),
              λ _ _. (
                back (plain_back 10),
                λ _ _. (
                  back (plain_back 14),
                  λ _ _. (
                    back flag_back,
                    λ _ _.
                        (refl, (refl, (refl, (refl, (refl, (tt, (refl, (refl, (refl, (refl, (refl, tt))))))))))),
                  ),
                ),
              ),
            ),
          ),
        ),
      ),
    ),
  ),
)

length-header : (h : Header) (bits : List Bool) → Spells header h bits → length bits ≡ 50
unfolding header
length-header h bits s = length-spelled header found-header h bits s

-- ---- what comes next is a packet

some_same : {A : Type 0} (x y : A) → Some x ≡ Some y → x ≡ y
some_same x y e = cc

none_or_some : {A : Type 0} (x : A) → Some x ≡ None → ⊥
none_or_some x e = absurd cc

after_number : (b : Bool) (number : ℕ) (p : Packet) (bits : List Bool)
    → Spells (choice b (done None) (kind Some (λ o. o) (reported_as telegram_fault (packet_of number)))) (Some p) bits → Spells (packet_of number) p bits
after_number true number p bits s = absurd (none_or_some p s.0)
after_number false number p bits s = subst (λ (q : Packet). Spells (packet_of number) q bits) (sym (some_same p s.0 s.1)) s.2

pub next_is_packet : (p : Packet) (bits : List Bool) → Spells next_packet (Some p) bits → Spells packet p bits
unfolding next_packet packet
next_is_packet p bits s = (s.0, s.1, s.2, s.3, s.4, after_number (s.0 == 255) s.0 p s.2 s.5)

pub length-next_packet : (p : Packet) (bits : List Bool) → Spells next_packet (Some p) bits → length bits ≡ length_of p
length-next_packet p bits s = (spelled-packet p bits (next_is_packet p bits s)).length_is

-- ---- the end mark

end_number : (b : Bool) (n : ℕ) (bits : List Bool) → nat_eq n 255 ≡ b → Spells (choice b (done None) (kind Some (λ (o : Option Packet). o) (reported_as telegram_fault (packet_of n)))) None bits → (n ≡ 255) × (bits ≡ [])
end_number true n bits e s = (eqb-true n 255 e, s.1)
end_number false n bits e s = absurd (none_or_some s.0 (sym s.1))

pub end_mark : (bits : List Bool) → Spells next_packet None bits → bits ≡ number_bits 8 255
unfolding next_packet
end_mark bits s =
    let end = end_number (nat_eq s.0 255) s.0 s.2 refl s.5 in
    s.3 ∙ ap (λ (t : List Bool). s.1 ++ t) end.1 ∙ append-nil s.1 ∙ field_bits 8 s.0 s.1 s.4.0 ((plain_back 8).back (number s.1) s.0 (number_below 8 s.1 s.4.0) s.4.1) ∙ ap (number_bits 8) end.0

length-end : (bits : List Bool) → Spells next_packet None bits → length bits ≡ 8
length-end bits s = ap length (end_mark bits s) ∙ length-number_bits 8 255

-- ---- what they take

-- a packet takes as many bits as its length reports
pub packet_length : (p : Packet) (bits rest : List Bool) → Begins next_packet (Some p) bits rest → length rest + length_of p ≡ length bits
packet_length p bits rest b =
    omega (arith, ap length b.parts, length-append b.front rest, length-next_packet p b.front b.spelled)

-- a packet takes 23 bits at least
pub packet_takes : (p : Packet) (bits rest : List Bool) → Begins next_packet (Some p) bits rest → length rest + 23 ≤ length bits
packet_takes p bits rest b =
    omega (arith, packet_length p bits rest b, length_of-least p)

pub header_takes : (h : Header) (bits rest : List Bool) → Begins header h bits rest → length rest + 50 ≡ length bits
header_takes h bits rest b =
    omega (arith, ap length b.parts, length-append b.front rest, length-header h b.front b.spelled)

length-packets : (ps : List Packet) (bits : List Bool) → SpellsPackets ps bits → length bits ≡ length_of_all ps + 8
length-packets [] bits s = length-end bits s
length-packets (p ∷ ps) bits s =
    omega (arith, ap length s.2, length-append s.0 s.1, length-next_packet p s.0 s.3, length-packets ps s.1 s.4)

pub length-telegram : (t : Telegram) (bits : List Bool) → SpellsTelegram t bits → length bits ≡ 58 + length_of_all t.packets.items
length-telegram t bits s =
    omega (arith, ap length s.2, length-append s.0 s.1, length-header t.header s.0 s.3, length-packets t.packets.items s.1 s.4)

end_takes : (bits rest : List Bool) → Begins next_packet None bits rest → length rest + 8 ≡ length bits
end_takes bits rest b = omega (arith, ap length b.parts, length-append b.front rest, length-end b.front b.spelled)

-- packets take 23 bits each at least, and the end mark takes 8
pub packets_take : (ps : List Packet) (bits rest : List Bool) → BeginsPackets ps bits rest → 23 * length ps + 8 ≤ length bits
packets_take [] bits rest b = omega (arith, end_takes bits rest b)
packets_take (p ∷ ps) bits rest b = omega (arith, packet_takes p bits b.0 b.1, packets_take ps b.0 rest b.2)
