-- The telegram of a balise (SUBSET-026, 8.4.2). Widths are bits.
use Rattle.std.specs.Prelude.{◌≡◌, ◌⊎◌, ◌<◌, ◌≤◌, ℕ, ◌==◌, nat_lt, Bool, true, false, List, [], ◌∷◌, ◌++◌, length, Option, Some, None, Ok, Err, if◌then◌else◌}
use Rattle.bits.specs.Bits.{bits_of}
use Rattle.bits.specs.declared.name.VariableName.{VariableName}
use Rattle.bits.specs.declared.name.VariableName.TheVariants as names
use Rattle.bits.specs.Layout.{Codes, Layout, done, unless, field, choice, kind, reported_as, ◌>>=◌, Spells, Begins, Refuses}
use Rattle.vars.specs.declared.variable.NoValue.{NoValue}
use Rattle.vars.specs.Variables.{position_in_group, m_dup, m_mcount, nid_c, nid_bg, flag, nid_packet}
use Rattle.packets.specs.Limits.{telegram_bytes}
use Rattle.packets.specs.Packets.{packet_of, number_of}
use Rattle.packets.specs.declared.packet.Packet.{Packet}
use Rattle.telegram.specs.Faults.{value_fault, telegram_fault}
use Rattle.telegram.specs.declared.fault.TelegramFault.{TelegramFault}
use Rattle.telegram.specs.declared.fault.TelegramFault.TheVariants.{Truncated, OutOfRange, WrongVersion, NotUplink, NotBalise, NoEnd, TooLong}
use Rattle.telegram.specs.declared.header.Header.{Header}
use Rattle.telegram.specs.declared.message.Telegram.{Telegram}

-- a variable of the header, and where its value is found
abbrev pub variable : {A : Type 0} → VariableName → Codes NoValue A → (Header → A) → Layout TelegramFault Header A
variable name codes get = field name Truncated value_fault codes get

-- n bits that have one value alone, and the fault of each other one
abbrev pub only : ℕ → ℕ → TelegramFault → Codes TelegramFault (Unit {0})
only n v other = record { width = n; value = λ x. if x == v then Ok tt else Err other; number = λ _. v }

abbrev pub fixed : VariableName → ℕ → ℕ → TelegramFault → Layout TelegramFault Header (Unit {0})
fixed name n v other = field name Truncated (λ e. e) (only n v other) (λ _. tt)

-- the bits of the header
abbrev pub header_bits : ℕ
header_bits = 50

-- The header: Q_UPDOWN, M_VERSION and Q_MEDIA have one value each, and N_PIG is at most N_TOTAL.
unfoldable pub header : Layout TelegramFault Header Header
header = do
  _ ← fixed names.QUpdown 1 1 NotUplink
  _ ← fixed names.MVersion 7 16 WrongVersion
  _ ← fixed names.QMedia 1 0 NotBalise
  position ← variable names.NPig position_in_group (λ h. h.position)
  last ← variable names.NTotal position_in_group (λ h. h.last_position)
  _ ← unless (nat_lt last position) OutOfRange
  duplicate ← variable names.MDup m_dup (λ h. h.duplicate)
  counter ← variable names.MMcount m_mcount (λ h. h.counter)
  country ← variable names.NidC nid_c (λ h. h.group.country)
  number ← variable names.NidBg nid_bg (λ h. h.group.number)
  linked ← variable names.QLink flag (λ h. h.linked)
  done (record { position = position; last_position = last; duplicate = duplicate; counter = counter; group = record { country = country; number = number }; linked = linked })

-- NID_PACKET of what comes next: 255 is the end mark
abbrev pub number_of_next : Option Packet → ℕ
number_of_next None = 255
number_of_next (Some p) = number_of p

-- What comes next: a packet, or none at the end mark, which has no more bits than its number.
unfoldable pub next_packet : Layout TelegramFault (Option Packet) (Option Packet)
next_packet = do
  number ← field names.NidPacket NoEnd value_fault nid_packet number_of_next
  choice (number == 255) (done None) (kind Some (λ o. o) (reported_as telegram_fault (packet_of number)))

-- The bits spell these packets, one after another, and then the end mark.
abbrev pub SpellsPackets : List Packet → List Bool → Type 0
SpellsPackets [] bits = Spells next_packet None bits
SpellsPackets (p ∷ ps) bits = (front rest : List Bool) × (bits ≡ front ++ rest) × Spells next_packet (Some p) front × SpellsPackets ps rest

-- The bits spell the telegram.
abbrev pub SpellsTelegram : Telegram → List Bool → Type 0
SpellsTelegram t bits = (front rest : List Bool) × (bits ≡ front ++ rest) × Spells header t.header front × SpellsPackets t.packets.items rest

-- The bytes carry the telegram: a front of their bits spells it, and what follows the end mark is free.
pub record Carries (bytes : List ℕ) (t : Telegram) : Type 0 where
  pub small : length bytes ≤ telegram_bytes
  pub front : List Bool
  pub rest : List Bool
  pub parts : bits_of bytes ≡ front ++ rest
  pub spelled : SpellsTelegram t front

-- After these packets the next one, or the end mark, has this first fault.
abbrev pub RefusesPackets : TelegramFault → List Packet → List Bool → Type 0
RefusesPackets e [] bits = Refuses next_packet e bits
RefusesPackets e (p ∷ ps) bits = (rest : List Bool) × Begins next_packet (Some p) bits rest × RefusesPackets e ps rest

-- No front of the bits spells a telegram, and this is the first fault in the order of the bits.
abbrev pub RefusesTelegram : TelegramFault → List Bool → Type 0
RefusesTelegram e bits = Refuses header e bits ⊎ ((h : Header) × (rest : List Bool) × (ps : List Packet) × Begins header h bits rest × RefusesPackets e ps rest)

-- The bytes carry no telegram, and this is the fault: too many bytes before all others.
abbrev pub RefusesBytes : TelegramFault → List ℕ → Type 0
RefusesBytes e bytes = ((telegram_bytes < length bytes) × (e ≡ TooLong)) ⊎ ((length bytes ≤ telegram_bytes) × RefusesTelegram e (bits_of bytes))

-- what was written over a packet, where one was
abbrev pub reported : {A : Type 0} → A → Bool → Option A
reported x true = Some x
reported x false = None
