-- What decoding answers, once for all of its exits.
use Rattle.std.proofs.Common.{◌≡◌, ◌≤◌, ◌↔◌, inl, inr, ℕ, Bool, List, ◌++◌, length, Result, Ok, Err, refl, sym, ap, subst, ◌∙◌, append_assoc, arith}
use Rattle.bits.specs.Bits.{bits_of}
use Rattle.bits.specs.Layout.{Begins, read}
use Rattle.bits.proofs.Laws.{err_same, begins_once, begins_not_refused, refused_once, found, refused}
use Rattle.packets.specs.declared.packet.Packet.{Packet}
use Rattle.telegram.specs.declared.header.Header.{Header}
use Rattle.telegram.specs.declared.fault.TelegramFault.{TelegramFault}
use Rattle.telegram.specs.declared.message.Telegram.{Telegram}
use Rattle.telegram.specs.Sequences.{BeginsPackets}
use Rattle.telegram.specs.Telegrams.{header, SpellsTelegram, Carries, RefusesPackets, RefusesTelegram, RefusesBytes}
use Rattle.telegram.proofs.PacketsInTurn.{packets_spelled, packets_begin, packets_once, packets_not_refused, packets_refused_once}

-- the bits begin with the telegram, and the rest follows its end mark
pub record BeginsTelegram (t : Telegram) (bits rest : List Bool) : Type 0 where
  pub following : List Bool
  pub header_first : Begins header t.header bits following
  pub packets_then : BeginsPackets t.packets.items following rest

pub telegram_once : (t u : Telegram) (bits r s : List Bool) → BeginsTelegram t bits r → BeginsTelegram u bits s → (t ≡ u) × (r ≡ s)
telegram_once t u bits r s b d =
    let heads = begins_once header t.header u.header bits b.following d.following b.header_first d.header_first in
    let ps = packets_once t.packets.items u.packets.items b.following r s b.packets_then (subst (λ (x : List Bool). BeginsPackets u.packets.items x s) (sym heads.1) d.packets_then) in
    ((λ i. record { header = heads.0 i; packets = record { items = ps.0 i } }), ps.1)

telegram_not_refused : (t : Telegram) (e : TelegramFault) (bits rest : List Bool) → BeginsTelegram t bits rest → RefusesTelegram e bits → ⊥
telegram_not_refused t e bits rest b r =
    elim r [
      | inl h ↦ begins_not_refused header t.header e bits b.following b.header_first h
      | inr h ↦
          let heads = begins_once header t.header h.0 bits b.following h.1 b.header_first h.3 in
          packets_not_refused t.packets.items h.2 e b.following rest b.packets_then (subst (λ (x : List Bool). RefusesPackets e h.2 x) (sym heads.1) h.4)
    ]

telegram_refused_once : (d e : TelegramFault) (bits : List Bool) → RefusesTelegram d bits → RefusesTelegram e bits → d ≡ e
telegram_refused_once d e bits r s =
    elim r [
      | inl h ↦ elim s [
        | inl k ↦ refused_once header d e bits h k
        | inr k ↦ absurd (begins_not_refused header k.0 d bits k.1 k.3 h)
      ]
      | inr h ↦ elim s [
        | inl k ↦ absurd (begins_not_refused header h.0 e bits h.1 h.3 k)
        | inr k ↦
            let heads = begins_once header h.0 k.0 bits h.1 k.1 h.3 k.3 in
            packets_refused_once h.2 k.2 d e h.1 h.4 (subst (λ (x : List Bool). RefusesPackets e k.2 x) (sym heads.1) k.4)
      ]
    ]

bytes_refused_once : (d e : TelegramFault) (bytes : List ℕ) → RefusesBytes d bytes → RefusesBytes e bytes → d ≡ e
bytes_refused_once d e bytes r s =
    elim r [
      | inl h ↦ elim s [ inl k ↦ h.1 ∙ sym k.1 | inr k ↦ absurd (let a = h.0 in let b = k.0 in omega arith) ]
      | inr h ↦ elim s [
        | inl k ↦ absurd (let a = h.0 in let b = k.0 in omega arith)
        | inr k ↦ telegram_refused_once d e (bits_of bytes) h.1 k.1
      ]
    ]

-- ---- bytes

pub carries : (bytes : List ℕ) (t : Telegram) (rest : List Bool) → length bytes ≤ 104 → BeginsTelegram t (bits_of bytes) rest → Carries bytes t
carries bytes t rest small b =
    let ps = packets_spelled t.packets.items b.following rest b.packets_then in
    record {
      small = small;
      front = b.header_first.front ++ ps.0;
      rest = rest;
      parts = b.header_first.parts ∙ ap (λ (x : List Bool). b.header_first.front ++ x) ps.1 ∙ sym (append_assoc b.header_first.front ps.0 rest);
      spelled = (b.header_first.front, ps.0, refl, b.header_first.spelled, ps.2);
    }

-- what spells the telegram begins with it, whatever follows
pub spelled_begins : (t : Telegram) (front rest : List Bool) → SpellsTelegram t front → BeginsTelegram t (front ++ rest) rest
spelled_begins t front rest s = record {
  following = s.1 ++ rest;
  header_first = record { front = s.0; parts = ap (λ (x : List Bool). x ++ rest) s.2 ∙ append_assoc s.0 s.1 rest; spelled = s.3 };
  packets_then = packets_begin t.packets.items s.1 rest s.4;
}

pub carried : (bytes : List ℕ) (t : Telegram) (c : Carries bytes t) → BeginsTelegram t (bits_of bytes) c.rest
carried bytes t c = subst (λ (x : List Bool). BeginsTelegram t x c.rest) (sym c.parts) (spelled_begins t c.front c.rest c.spelled)

pub not_refused : (bytes : List ℕ) (t : Telegram) (e : TelegramFault) → Carries bytes t → RefusesBytes e bytes → ⊥
not_refused bytes t e c r =
    elim r [
      | inl h ↦ absurd (let a = h.0 in let b = c.small in omega arith)
      | inr h ↦ telegram_not_refused t e (bits_of bytes) c.rest (carried bytes t c) h.1
    ]

-- bytes carry one telegram at most
pub carried_once : (bytes : List ℕ) (t u : Telegram) → Carries bytes t → Carries bytes u → t ≡ u
carried_once bytes t u c d = (telegram_once t u (bits_of bytes) c.rest d.rest (carried bytes t c) (carried bytes u d)).0

-- ---- what is read of bytes

pub header_refused : (bytes : List ℕ) (e : TelegramFault) → length bytes ≤ 104 → read header (bits_of bytes) ≡ Err e → RefusesBytes e bytes
header_refused bytes e small fault = inr (small, inl (refused header _ e fault))

pub packets_refused : (bytes : List ℕ) (rest : List Bool) (h : Header) (e : TelegramFault) (ps : List Packet) → length bytes ≤ 104 → read header (bits_of bytes) ≡ Ok (h, rest)
    → RefusesPackets e ps rest → RefusesBytes e bytes
packets_refused bytes rest h e ps small first r = inr (small, inr (h, rest, ps, found header _ h rest first, r))

pub read_carries : (bytes : List ℕ) (t : Telegram) (following rest : List Bool) → length bytes ≤ 104 → read header (bits_of bytes) ≡ Ok (t.header, following) → BeginsPackets t.packets.items following rest → Carries bytes t
read_carries bytes t following rest small first ps = carries bytes t rest small (record { following = following; header_first = found header _ _ _ first; packets_then = ps })

-- ---- answers

abbrev pub made : {X : Type 0} → X → Result X TelegramFault
made x = Ok x

abbrev pub failed : (X : Type 0) → TelegramFault → Result X TelegramFault
failed X e = Err e

pub ok_same : {X : Type 0} (x y : X) → made x ≡ made y → x ≡ y
ok_same x y same = cc

pub fault_ok : {X : Type 0} (x : X) (bytes : List ℕ) (t : Telegram) → Carries bytes t → (e : TelegramFault) → (made x ≡ failed X e) ↔ RefusesBytes e bytes
fault_ok x bytes t c e = (λ same. absurd cc, λ r. absurd (not_refused bytes t e c r))

pub fault_err : (X : Type 0) (bytes : List ℕ) (d : TelegramFault) → RefusesBytes d bytes → (e : TelegramFault) → (failed X d ≡ failed X e) ↔ RefusesBytes e bytes
fault_err X bytes d r e = (
  λ same. subst (λ (x : TelegramFault). RefusesBytes x bytes) (err_same X d e same) r,
  λ s. ap (failed X) (bytes_refused_once d e bytes r s),
)
