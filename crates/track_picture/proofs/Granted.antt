-- The authority that counts, what its timers have seen and the moment are those of the authority's list.
use Rattle.std.proofs.Common.{◌≡◌, ℕ, ℤ, List, [], ◌∷◌, Bool, true, false, cond, refl, ap, ◌∙◌}
use Rattle.std.specs.Prelude.{Option, Some, None}
use Rattle.vars.specs.declared.group.GroupIdentity.{GroupIdentity}
use Rattle.authority.specs.Entries as authority
use Rattle.authority.specs.Entries.{AuthorityEntry, Sight, accepted, sights, now_of}
use Rattle.events.specs.declared.input.Reading.{Reading}
use Rattle.mode_table.specs.declared.mode.Mode.{Mode}
use Rattle.mode_table.specs.declared.statuses.Item.TheVariants as item
use Rattle.packets.specs.declared.packet.Packet.{Packet}
use Rattle.packets.specs.declared.packet.Packet.TheVariants as packets
use Rattle.track_store.specs.Profiles.{listed}
use Rattle.track_store.proofs.Standing.{filter-true}
use Rattle.units.specs.Stretches.{Span}
use Rattle.track_picture.specs.Columns.{TrackReports, reported_in, authority_deleted}
use Rattle.track_picture.specs.Entry.{TrackEntry, Outcome, facts_in}
use Rattle.track_picture.specs.Happenings.{and_ticked, and_moved, and_missed, and_judged, and_closed, and_seen, and_entered, and_marked, happenings}
use Rattle.track_picture.specs.Live.{Happening, level_reported, deleting}
use Rattle.track_picture.specs.Parts.{moment_in}
use Rattle.track_picture.proofs.EachKind.{grant, look}
use Rattle.track_picture.proofs.Growing.{past_missed, past_judged, past_used}
use Rattle.track_picture.proofs.OneKind.{Follows, value, fact_with, lost_all, by_mode, step_to, follows, past_linked, past_links, past_level}

-- ---- the authority

abbrev granted : List AuthorityEntry → List authority.Fact
granted es = listed (accepted es)

abbrev latest : TrackReports → List authority.Fact
latest reported = granted reported.grants

grant_reported : (group : GroupIdentity) (place : ℤ) (moment : ℕ) (packet : Packet) (reported : TrackReports) →
    Follows grant latest (Happening.Reported (fact_with group place moment packet)) reported
grant_reported g p m (packets.MovementAuthority q) reported = ap (λ xs. authority.fact_of q p m ∷ xs) (lost_all (latest reported))
grant_reported g p m (packets.Linking q) reported = past_links grant (λ a. refl) g p q (latest reported)
grant_reported g p m (packets.LevelTransition q) reported =
    past_level grant (λ a. refl) (level_reported (fact_with g p m (packets.LevelTransition q))) (latest reported)
grant_reported g p m other reported = filter-true (latest reported)

grant_one : (h : Happening) (reported : TrackReports) → Follows grant latest h reported
grant_one (Happening.Reported fact) reported = grant_reported fact.group fact.place fact.moment fact.packet reported
grant_one (Happening.Linked entry) reported = past_linked grant refl entry (latest reported)
grant_one (Happening.Entered mode) reported = by_mode grant granted authority_deleted (λ xs. refl) (deleting item.Authority mode) reported.grants
grant_one other reported = filter-true (latest reported)

pub grants_are : (hs : List Happening) → value grant hs ≡ listed (accepted (reported_in hs).grants)
grants_are = follows grant latest refl grant_one

-- ---- the moment

now_reported : (group : GroupIdentity) (place : ℤ) (moment : ℕ) (packet : Packet) (hs : List Happening) → moment_in hs ≡ now_of (reported_in hs).grants →
    moment_in (Happening.Reported (fact_with group place moment packet) ∷ hs) ≡ now_of (reported_in (Happening.Reported (fact_with group place moment packet) ∷ hs)).grants
now_reported g p m (packets.MovementAuthority q) hs r = refl
now_reported g p m other hs r = r

now_by_mode : (deleted : Bool) (es : List AuthorityEntry) → now_of es ≡ now_of (cond deleted (authority_deleted es) es)
now_by_mode true es = refl
now_by_mode false es = refl

pub moment_is : (hs : List Happening) → moment_in hs ≡ now_of (reported_in hs).grants
moment_is [] = refl
moment_is (Happening.Ticked moment ∷ hs) = refl
moment_is (Happening.Reported fact ∷ hs) = now_reported fact.group fact.place fact.moment fact.packet hs (moment_is hs)
moment_is (Happening.Entered mode ∷ hs) = moment_is hs ∙ now_by_mode (deleting item.Authority mode) (reported_in hs).grants
moment_is (other ∷ hs) = moment_is hs

-- ---- what its timers have seen, where each look was at the moment that it says

abbrev IsInTime : List Happening → Type 0
IsInTime [] = Unit {0}
IsInTime (Happening.Seen sight ∷ hs) = (sight.moment ≡ moment_in hs) × IsInTime hs
IsInTime (happening ∷ hs) = IsInTime hs

look_reported : (group : GroupIdentity) (place : ℤ) (moment : ℕ) (packet : Packet) (reported : TrackReports) →
    Follows look (λ t. sights t.grants) (Happening.Reported (fact_with group place moment packet)) reported
look_reported g p m (packets.MovementAuthority q) reported = lost_all (sights reported.grants)
look_reported g p m (packets.Linking q) reported = past_links look (λ a. refl) g p q (sights reported.grants)
look_reported g p m (packets.LevelTransition q) reported =
    past_level look (λ a. refl) (level_reported (fact_with g p m (packets.LevelTransition q))) (sights reported.grants)
look_reported g p m other reported = filter-true (sights reported.grants)

looks_in_time : (hs : List Happening) → IsInTime hs → value look hs ≡ sights (reported_in hs).grants
looks_in_time [] t = refl
looks_in_time (Happening.Seen sight ∷ hs) t =
    let seen = (reported_in hs).grants in
    step_to look (Happening.Seen sight) hs (sights seen) (looks_in_time hs t.1)
    ∙ (ap (λ xs. sight ∷ xs) (filter-true (sights seen))
    ∙ ap (λ (at : ℕ). (let s : Sight = record { moment = at; train = sight.train } in s) ∷ sights seen) (t.0 ∙ moment_is hs))
looks_in_time (Happening.Reported fact ∷ hs) t =
    step_to look (Happening.Reported fact) hs (sights (reported_in hs).grants) (looks_in_time hs t)
    ∙ look_reported fact.group fact.place fact.moment fact.packet (reported_in hs)
looks_in_time (Happening.Linked entry ∷ hs) t =
    step_to look (Happening.Linked entry) hs (sights (reported_in hs).grants) (looks_in_time hs t)
    ∙ past_linked look refl entry (sights (reported_in hs).grants)
looks_in_time (Happening.Entered mode ∷ hs) t =
    step_to look (Happening.Entered mode) hs (sights (reported_in hs).grants) (looks_in_time hs t)
    ∙ by_mode look sights authority_deleted (λ xs. refl) (deleting item.Authority mode) (reported_in hs).grants
looks_in_time (other ∷ hs) t =
    step_to look other hs (sights (reported_in hs).grants) (looks_in_time hs t) ∙ filter-true (sights (reported_in hs).grants)

-- so it is in a life

ticked : (clock : Option ℕ) (hs : List Happening) → IsInTime hs → IsInTime (and_ticked clock hs)
ticked None hs t = t
ticked (Some moment) hs t = t

moved : (reading : Option Reading) (hs : List Happening) → IsInTime hs → IsInTime (and_moved reading hs)
moved None hs t = t
moved (Some reading) hs t = t

closed : (outcomes : List Outcome) (hs : List Happening) → IsInTime hs → IsInTime (and_closed outcomes hs)
closed [] hs t = t
closed (o ∷ os) hs t =
    past_used IsInTime (λ fact hs t. t) (facts_in o) (and_judged o (and_closed os hs))
    (past_judged IsInTime (λ entry hs t. t) (λ group hs t. t) (λ group fix hs t. t) o (and_closed os hs) (closed os hs t))

seen : (train : Option Span) (hs : List Happening) → IsInTime hs → IsInTime (and_seen train hs)
seen None hs t = t
seen (Some train) hs t = (refl, t)

entered : (mode : Option Mode) (hs : List Happening) → IsInTime hs → IsInTime (and_entered mode hs)
entered None hs t = t
entered (Some mode) hs t = t

marked : (mark : Option ℤ) (hs : List Happening) → IsInTime hs → IsInTime (and_marked mark hs)
marked None hs t = t
marked (Some mark) hs t = t

in_time : (events : List TrackEntry) → IsInTime (happenings events)
in_time [] = tt
in_time (e ∷ es) =
    let ticked_now = and_ticked e.initial.clock (happenings es) in
    let moved_now = and_moved e.initial.reading ticked_now in
    let initial = and_missed e.initial.missed moved_now in
    let closed_now = and_closed e.used.groups initial in
    let seen_now = and_seen e.train closed_now in
    marked e.mark (and_entered e.entered seen_now) (entered e.entered seen_now (seen e.train closed_now (closed e.used.groups initial
    (past_missed IsInTime (λ entry hs t. t) e.initial.missed moved_now (moved e.initial.reading ticked_now (ticked e.initial.clock (happenings es) (in_time es)))))))

pub looks_are : (events : List TrackEntry) → value look (happenings events) ≡ sights (reported_in (happenings events)).grants
looks_are events = looks_in_time (happenings events) (in_time events)
