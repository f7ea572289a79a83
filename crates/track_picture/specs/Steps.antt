-- What lies between the sentences of one event (this project's profile). Places are centimetres, moments milliseconds.
use Rattle.std.specs.Prelude.{ℕ, ◌+◌, ◌*◌, ◌≤◌, ℤ, Bool, if◌then◌else◌, Option, Some, None, is_none, List, length, map, filter}
use Rattle.std.specs.Option.{option_map_or}
use Rattle.packets.specs.declared.packet.Packet.{Packet}
use Rattle.linking.specs.declared.announcement.Announcement.{Announcement}
use Rattle.track_picture.specs.declared.fixing.Wanted.{Wanted}
use Rattle.balise_groups.specs.PacketCounts.{packets_in}
use Rattle.events.specs.declared.input.Input.{Input}
use Rattle.events.specs.declared.input.Input.TheVariants.{Telegram, Odometer, Clock, Driver}
use Rattle.track_picture.specs.declared.using.Use.{Use}
use Rattle.track_picture.specs.Bytes.{telegram_in}
use Rattle.track_picture.specs.Entry.{Fact}
use Rattle.track_picture.specs.Sentences.{is_used}
use Rattle.track_picture.specs.StandsFor.{KnownTrack, Knowledge, space_in}
use Rattle.track_picture.specs.Stores.{Stores}

-- a packet that is used so, and all that are used of a message
abbrev pub fact_of : Use → Packet → Fact
fact_of used packet = record { group = used.group; place = used.place; moment = used.moment; packet = packet }

abbrev pub facts : Use → List Packet → List Fact
facts used packets = map (fact_of used) (filter (is_used used.mode used.direction) packets)

-- the place at which a fix is wanted, and how exactly it is known
abbrev pub fix_wanted : Bool → ℤ → Option Announcement → Option Wanted
fix_wanted free own (Some a) = Some (record { place = a.place; accuracy = 100 * a.accuracy })
fix_wanted free own None = if free then Some (record { place = own; accuracy = 0 }) else None

-- how many packets may be used by an input: those of the group being read, which may close by it, and of a telegram its
-- own
abbrev pub packets_by : KnownTrack → Input → ℕ
packets_by known (Telegram bytes) = option_map_or (λ t. packets_in known.groups.readings + length t.packets.items) (telegram_in bytes) 0
packets_by known (Odometer reading) = if is_none known.groups.current then 0 else packets_in known.groups.readings
packets_by known (Clock moment) = 0
packets_by known (Driver action) = 0

-- there is space for them
abbrev pub HasSpaceFor : {G S : Type 0} → Stores G S → Knowledge G S → Input → Type 0
HasSpaceFor stores known input = packets_by known.parts input ≤ space_in stores known
