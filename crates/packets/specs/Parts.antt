-- What layouts of packets are made of, and what becomes of a sink that takes these parts (SUBSET-026, 7.3 and 7.4).
-- Widths are bits.
use Rattle.std.specs.Prelude.{ℕ, ◌+◌, ◌-◌, Bool, List, [], length, take, drop, Option, is_some, Result}
use Rattle.std.specs.Int.{from_bool}
use Rattle.std.specs.Option.{option_map_or}
use Rattle.bits.specs.Fitting.{HasNumber, Fits}
use Rattle.bits.specs.Layout.{Codes, Layout, done, field, part, more, ◌>>=◌, after, read, read_field}
use Rattle.bits.specs.Sums.{total}
use Rattle.bits.specs.Writing.{ListedField, named, each_taken, taken, size}
use Rattle.bits.specs.declared.name.VariableName.{VariableName}
use Rattle.bits.specs.declared.name.VariableName.TheVariants as names
use Rattle.vars.specs.Values.{direction_number, scale_number}
use Rattle.vars.specs.Variables.{flag, n_iter, q_dir, l_packet, q_scale}
use Rattle.vars.specs.declared.packet_head.ValidityDirection.{ValidityDirection}
use Rattle.vars.specs.declared.scale.Scale.{Scale}
use Rattle.vars.specs.declared.variable.NoValue.{NoValue}
use Rattle.packets.specs.Faults.{packet_fault}
use Rattle.packets.specs.declared.fault.PacketFault.{PacketFault}
use Rattle.packets.specs.declared.fault.PacketFault.TheVariants.{Truncated}

-- a variable of a packet, and where its value is found
abbrev pub variable : {C A : Type 0} → VariableName → Codes NoValue A → (C → A) → Layout PacketFault C A
variable name codes get = field name Truncated packet_fault codes get

-- a qualifier, and its part
abbrev pub qualified : {C A : Type 0} → VariableName → Layout PacketFault A A → (C → Option A) → Layout PacketFault C (Option A)
qualified name m get = variable name flag (λ c. is_some (get c)) >>= (λ given. part given m get)

-- what follows the number of a packet with distances: Q_DIR, L_PACKET and Q_SCALE
abbrev pub head_of : {C : Type 0} → (C → ValidityDirection) → (C → ℕ) → (C → Scale) → Layout PacketFault C (ValidityDirection × ℕ × Scale)
head_of direction reported scale =
    variable names.QDir q_dir direction >>= (λ d. variable names.LPacket l_packet reported >>= (λ t. variable names.QScale q_scale scale >>= (λ s. done (d, t, s))))

-- a list of at least one element: the first, N_ITER and the other elements
abbrev pub from_first : {C D : Type 0} → Layout PacketFault D D → (C → List D) → Layout PacketFault C (List D)
from_first m get =
    more 1 m [] (λ c. take 1 (get c)) >>= (λ first. variable names.NIter n_iter (λ c. length (get c) - 1) >>= (λ count. more count m first get))

-- a packet with the count of its own bits, those of its number included
abbrev pub description : {C A : Type 0} → ((C → ℕ) → Layout PacketFault C A) → Layout PacketFault C A
description m = m (λ c. 8 + size (m (λ _. 0)) c)

-- ---- what becomes of a sink, and how many bits there are

-- a head with its L_PACKET
abbrev pub head_taken : {S : Type 0} → (S → ListedField → S) → ValidityDirection → ℕ → Scale → S → S
head_taken t direction reported scale s = t (t (t s (named names.QDir 2 (direction_number direction))) (named names.LPacket 13 reported)) (named names.QScale 2 (scale_number scale))

-- a first element, N_ITER, and the other elements
abbrev pub from_first_taken : {D S : Type 0} → (S → ListedField → S) → Layout PacketFault D D → List D → S → S
from_first_taken t m xs s =
    each_taken (λ x left. taken t m x left) (drop (length (take 1 xs)) xs) (t (each_taken (λ x left. taken t m x left) (take 1 xs) s) (named names.NIter 5 (length xs - 1)))

abbrev pub from_first_size : {D : Type 0} → Layout PacketFault D D → List D → ℕ
from_first_size m xs = total (λ x. size m x) (take 1 xs) + (5 + total (λ x. size m x) (drop (length (take 1 xs)) xs))

-- a qualifier, and its part
abbrev pub qualified_taken : {D S : Type 0} → (S → ListedField → S) → Layout PacketFault D D → VariableName → Option D → S → S
qualified_taken t m name o s = let reported = t s (named name 1 (from_bool (is_some o))) in option_map_or (λ d. taken t m d reported) o reported

abbrev pub qualified_size : {D : Type 0} → Layout PacketFault D D → Option D → ℕ
qualified_size m o = 1 + option_map_or (λ d. size m d) o 0

-- ---- which values there are bits for

-- a head, but for its L_PACKET
abbrev pub HeadFits : ValidityDirection → Scale → Type 0
HeadFits direction scale = Fits (head_of (λ (h : ValidityDirection × Scale). h.0) (λ _. 0) (λ h. h.1)) (direction, scale)

-- a list that has a first element: it, N_ITER, and the other elements
abbrev pub FromFirstFits : {D : Type 0} → Layout PacketFault D D → List D → Type 0
FromFirstFits {D = D} m xs =
    Fits (more 1 m [] (λ (ys : List D). take 1 ys)) xs × HasNumber n_iter (length xs - 1) × Fits (more (length xs - 1) m (take 1 xs) (λ (ys : List D). ys)) xs

-- a qualifier, and its part
abbrev pub QualifiedFits : {D : Type 0} → Layout PacketFault D D → Option D → Type 0
QualifiedFits {D = D} m o = HasNumber flag (is_some o) × Fits (part (is_some o) m (λ (x : Option D). x)) o

-- ---- reading

-- a head at the front of the bits
abbrev pub read_head : List Bool → Result ((ValidityDirection × ℕ × Scale) × List Bool) PacketFault
read_head bits = read (head_of (λ (h : ValidityDirection × ℕ × Scale). h.0) (λ h. h.1) (λ h. h.2)) bits

-- a list of at least one element at the front of the bits
abbrev pub read_from_first : {D : Type 0} → Layout PacketFault D D → List Bool → Result (List D × List Bool) PacketFault
read_from_first {D = D} m bits = read (from_first m (λ (xs : List D). xs)) bits

-- a qualifier at the front of the bits, and its part
abbrev pub read_qualified : {D : Type 0} → Layout PacketFault D D → List Bool → Result (Option D × List Bool) PacketFault
read_qualified m bits = after (read_field Truncated packet_fault flag bits) (λ given rest. read (part given m (λ (x : Option _). x)) rest)
