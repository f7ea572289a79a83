-- Each spelling of a packet is what is appended for it, and the length that it says is that of the packet.
use Rattle.std.proofs.Common.{◌≡◌, ap, refl, arith, length, List, Bool, ◌+◌, ◌<◌, ◌^◌, ◌++◌, ℕ, []}
use Rattle.std.specs.Prelude.{Some}
use Rattle.bits.specs.Fitting.{Fits}
use Rattle.bits.specs.Layout.{Layout, Spells}
use Rattle.bits.specs.Writing.{value, size, appended}
use Rattle.bits.proofs.Found.{Found, spelled}
use Rattle.bits.proofs.Fitting.{spelling}
use Rattle.bits.proofs.WritingLaws.{length-appended}
use Rattle.packets.specs.Parts.{description}
use Rattle.packets.specs.declared.fault.PacketFault.{PacketFault}

-- What is to be shown of the layout of a packet that says its bits: each value that is read is found in the packet
-- again, and the reported number is no matter but where it stands. What reading shows of a packet besides that it fits, R
-- says; and P says exactly which packets fit, but for their length.
pub record Describes {C : Type 0} (m : (C → ℕ) → Layout PacketFault C (ℕ × C)) (R P : C → Type 0) : Type 0 where
  pub found : (t : ℕ) → Found (m (λ _. t)) (λ p Q. p.0 ≡ t → (p.0 < 2 ^ 13) × R p.1 × Q p.1)
  pub anyhow : (g h : C → ℕ) (p : ℕ × C) (bits : List Bool) → Spells (m g) p bits → Spells (m h) p bits
  pub sized : (g h : C → ℕ) (c : C) → size (m g) c ≡ size (m h) c
  pub ready : (t : ℕ) (c : C) → R c → Fits (m (λ _. t)) c → value (m (λ _. t)) c ≡ Some (t, c) → P c
  pub stands : (t : ℕ) (c : C) → t ≡ 8 + size (m (λ _. 0)) c → t < 2 ^ 13 → P c → Fits (m (λ _. t)) c × (value (m (λ _. t)) c ≡ Some (t, c))

-- what a spelling of such a packet is
pub record Reported {C : Type 0} (m : (C → ℕ) → Layout PacketFault C (ℕ × C)) (P : C → Type 0) (p : ℕ × C) (bits : List Bool) : Type 0 where
  pub length_is : p.0 ≡ 8 + size (m (λ _. 0)) p.1
  pub small : p.0 < 2 ^ 13
  pub ready : P p.1
  pub written : (front : List Bool) → front ++ bits ≡ appended (m (λ _. p.0)) p.1 front

pub reported : {C : Type 0} (m : (C → ℕ) → Layout PacketFault C (ℕ × C)) (R P : C → Type 0) → Describes m R P → (p : ℕ × C) (bits : List Bool) → Spells (description m) p bits → p.0 ≡ 8 + length bits → Reported m P p bits
reported m R P t p bits s all =
    let a = spelled (m (λ _. p.0)) (λ q Q. q.0 ≡ p.0 → (q.0 < 2 ^ 13) × R q.1 × Q q.1) p bits (t.found p.0) (t.anyhow _ (λ _. p.0) p bits s) in
    let h = a.holds refl in
    record {
      length_is = omega (arith, all, ap length (a.put p.1 [] h.2), length-appended (m (λ _. p.0)) p.1 [], t.sized (λ _. p.0) (λ _. 0) p.1);
      small = h.0;
      ready = t.ready p.0 p.1 h.1 (a.fits p.1 h.2) (a.again p.1 h.2);
      written = λ front. a.put p.1 front h.2;
    }

-- a packet that fits has a spelling that says its bits
pub spelled_so : {C : Type 0} (m : (C → ℕ) → Layout PacketFault C (ℕ × C)) (R P : C → Type 0) → Describes m R P → (t : ℕ) (c : C) → t ≡ 8 + size (m (λ _. 0)) c → t < 2 ^ 13 → P c
    → (bits : List Bool) × Spells (description m) (t, c) bits × (t ≡ 8 + length bits)
spelled_so m R P describes t c long small fit =
    let f = describes.stands t c long small fit in
    let a = spelling (m (λ _. t)) c (t, c) [] f.0 f.1 in
    (a.bits, describes.anyhow (λ _. t) _ (t, c) a.bits a.spells, omega (arith, long, ap length a.put, length-appended (m (λ _. t)) c [], describes.sized (λ _. t) (λ _. 0) c))

abbrev pub Anything : {C : Type 0} → C → Type 0
Anything c = Unit {0}
