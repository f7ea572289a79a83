-- Where an event uses no authority, the end isn't farther after it.
use Rattle.std.proofs.Common.{◌≡◌, ℕ, ◌≤◌, ℤ, ◌≤ℤ◌, List, [], ◌∷◌, Bool, true, false, cond, refl, ap, sym, ◌∙◌, subst, arith}
use Rattle.std.specs.Prelude.{Option, Some, None, is_some, filter, map, unwrap_or}
use Rattle.std.specs.List.{list_any}
use Rattle.std.specs.Option.{option_map, option_map_or}
use Rattle.std.proofs.lemmas.Int.{ints}
use Rattle.std.proofs.lemmas.Bool.{or_parts}
use Rattle.authority.specs.declared.answers.End.{End}
use Rattle.authority.specs.Entries as authority
use Rattle.authority.specs.Entries.{AuthorityEntry, Sight, now_of, accepted, sights}
use Rattle.authority.specs.Entries.AuthorityEntry.{Accepted as Granted, Passed}
use Rattle.authority.specs.Track.{reported_end}
use Rattle.authority.specs.Authority.{end_now, end_of}
use Rattle.authority.proofs.Forward.{section_later, section_seen, timer_later, timer_seen}
use Rattle.authority.proofs.Places.{now_sooner}
use Rattle.balise_groups.specs.declared.message.Closed.{Closed}
use Rattle.balise_groups.specs.declared.message.Closed.TheVariants as closed
use Rattle.balise_groups.specs.declared.message.Message.{Message}
use Rattle.events.specs.declared.input.Event.{Event}
use Rattle.events.specs.declared.input.Event.TheVariants as an_event
use Rattle.events.specs.declared.input.Input.{Input}
use Rattle.linking.specs.declared.judgement.Verdict.{Verdict}
use Rattle.linking.specs.declared.judgement.Verdict.TheVariants.{Accept, Ignore, Reaction}
use Rattle.linking.specs.declared.judgement.Judgement.{Judgement}
use Rattle.mode_table.specs.declared.mode.Mode.{Mode}
use Rattle.mode_table.specs.declared.statuses.Item.TheVariants as item
use Rattle.packets.specs.declared.authority.MovementAuthority.{MovementAuthority}
use Rattle.packets.specs.declared.packet.Packet.{Packet}
use Rattle.packets.specs.Packets.{as_movement_authority}
use Rattle.units.specs.Stretches.{Span}
use Rattle.vars.specs.declared.group.GroupIdentity.{GroupIdentity}
use Rattle.track_picture.specs.Entry.{TrackEntry, InputEffect, Used, Outcome, Fact, blank, added, asking_for, facts_in}
use Rattle.track_picture.specs.Live.{deleting}
use Rattle.track_picture.specs.History.{moment_of, groups_of, place_of}
use Rattle.track_picture.specs.Columns.{after_authority, after_facts, authority_deleted}
use Rattle.track_picture.proofs.SameParts.{same_end}
use Rattle.track_picture.specs.Sentences.{initial, happened_first, with_closed, closed_by, used_by, outcome, outcome_at_first, judged, place_by, own_place, fix_made, is_used, direction_of}
use Rattle.mode_control.specs.History.{tracks, mode_of}
use Rattle.mode_control.specs.Sentences.{reported, entry_of}
use Rattle.kernel.specs.Lives.{life_of}
use Rattle.safety_laws.specs.Ends.{is_authority, describes_authority, uses_authority, end_after, moment_after}
use Rattle.safety_laws.proofs.AuthorityReport.{authorities, after_clock, after_reported, after_entered, by_event}
use Rattle.safety_laws.proofs.Events.{train}

-- ---- a moment of the clock, and a place of the train

abbrev end_at : authority.Fact → List AuthorityEntry → ℤ
end_at fact entries = (end_now fact (now_of entries) (sights entries)).place

by_clock : (fact : authority.Fact) (clock : Option ℕ) (before : List AuthorityEntry) → now_of before ≤ unwrap_or clock (now_of before) →
    end_at fact (after_clock clock before) ≤ℤ end_at fact before
by_clock fact None before o = omega (arith, ints)
by_clock fact (Some moment) before o =
    now_sooner fact (now_of before) moment (sights before) (sights before)
    (λ s h. section_later fact.moment (now_of before) moment (sights before) s o h)
    (λ h. timer_later (reported_end fact) fact.packet.scale (now_of before) moment (sights before) fact.packet.end_timer o h)

by_sight : (fact : authority.Fact) (here : Span) (before : List AuthorityEntry) → end_at fact (Passed here ∷ before) ≤ℤ end_at fact before
by_sight fact here before =
    let sight : Sight = record { moment = now_of before; train = here } in
    now_sooner fact (now_of before) (now_of before) (sights before) (sight ∷ sights before)
    (λ s h. section_seen fact.moment sight (sights before) s h)
    (λ h. timer_seen (reported_end fact) fact.packet.scale (now_of before) sight (sights before) fact.packet.end_timer h)

-- ---- what an event that uses no authority adds

no_packet : (packet : Option MovementAuthority) (fact : Fact) (entries : List AuthorityEntry) → is_some packet ≡ false →
    option_map_or (λ p. Granted (authority.fact_of p fact.place fact.moment) ∷ entries) packet entries ≡ entries
no_packet None fact entries h = refl
no_packet (Some p) fact entries h = absurd (let no : true ≡ false = h in cc)

no_facts : (facts : List Fact) (entries : List AuthorityEntry) → list_any is_authority facts ≡ false → after_facts after_authority facts entries ≡ entries
no_facts [] entries h = refl
no_facts (fact ∷ facts) entries h =
    let parts = or_parts (is_authority fact) (list_any is_authority facts) h in
    ap (after_facts after_authority facts) (no_packet (as_movement_authority fact.packet) fact entries parts.0) ∙ no_facts facts entries parts.1

no_groups : (outcomes : List Outcome) (entries : List AuthorityEntry) → list_any describes_authority outcomes ≡ false → after_reported outcomes entries ≡ entries
no_groups [] entries h = refl
no_groups (outcome ∷ outcomes) entries h =
    let parts = or_parts (describes_authority outcome) (list_any describes_authority outcomes) h in
    no_facts (facts_in outcome) (after_reported outcomes entries) parts.0 ∙ no_groups outcomes entries parts.1

-- an end after a mode that was entered was there before it
not_deleted : (b : Bool) (entries : List AuthorityEntry) (end : End) → end_of (cond b (authority_deleted entries) entries) ≡ Some end → end_of entries ≡ Some end
not_deleted true entries end h = absurd (let no : None ≡ Some end = h in cc)
not_deleted false entries end h = h

past_mode : (entered : Option Mode) (entries : List AuthorityEntry) (end : End) →
    end_of (after_entered entered entries) ≡ Some end → end_of entries ≡ Some end
past_mode None entries end h = h
past_mode (Some mode) entries end h = not_deleted (deleting item.Authority mode) entries end h

accepted_same : (clock : Option ℕ) (before : List AuthorityEntry) → accepted (after_clock clock before) ≡ accepted before
accepted_same None before = refl
accepted_same (Some moment) before = refl

by_fact : (fact : Option authority.Fact) (before after : authority.Fact → End) (new : End) → ((f : authority.Fact) → (after f).place ≤ℤ (before f).place) →
    option_map after fact ≡ Some new → (old : End) × (option_map before fact ≡ Some old) × (new.place ≤ℤ old.place)
by_fact None before after new h e = absurd (let no : None ≡ Some new = e in cc)
by_fact (Some f) before after new h e =
    let same : after f ≡ new = cc in
    (before f, refl, subst (λ (x : End). x.place ≤ℤ (before f).place) same (h f))

no_farther : (clock : Option ℕ) (here : Span) (before : List AuthorityEntry) (new : End) → now_of before ≤ unwrap_or clock (now_of before) →
    end_of (Passed here ∷ after_clock clock before) ≡ Some new → (old : End) × (end_of before ≡ Some old) × (new.place ≤ℤ old.place)
no_farther clock here before new o h =
    let later : List AuthorityEntry = Passed here ∷ after_clock clock before in
    by_fact (accepted before) (λ (f : authority.Fact). end_now f (now_of before) (sights before)) (λ (f : authority.Fact). end_now f (now_of later) (sights later)) new
    (λ f. omega (arith, ints, by_sight f here (after_clock clock before), by_clock f clock before o))
    (sym (ap (option_map (λ (f : authority.Fact). end_now f (now_of later) (sights later))) (accepted_same clock before)) ∙ h)

-- ---- the moment of a life is that of its authority's entries: each packet of an event is reported at its moment

now_by_packet : (packet : Option MovementAuthority) (fact : Fact) (reported : List AuthorityEntry) → now_of reported ≡ fact.moment →
    now_of (option_map_or (λ p. Granted (authority.fact_of p fact.place fact.moment) ∷ reported) packet reported) ≡ fact.moment
now_by_packet None fact reported h = h
now_by_packet (Some p) fact reported h = refl

now_by_packets : (group : GroupIdentity) (place : ℤ) (moment : ℕ) (packets : List Packet) (reported : List AuthorityEntry) → now_of reported ≡ moment →
    now_of (after_facts after_authority (map (λ packet. record { group = group; place = place; moment = moment; packet = packet }) packets) reported) ≡ moment
now_by_packets group place moment [] reported h = h
now_by_packets group place moment (packet ∷ packets) reported h =
    let fact : Fact = record { group = group; place = place; moment = moment; packet = packet } in
    now_by_packets group place moment packets (after_authority fact reported) (now_by_packet (as_movement_authority packet) fact reported h)

module _ (mode : Mode) (entries : List TrackEntry) (first : InputEffect) where
  abbrev now : ℕ
  now = unwrap_or first.clock (moment_of entries)

  abbrev KeepsNow : List Outcome → Type 0
  KeepsNow outcomes = (reported : List AuthorityEntry) → now_of reported ≡ now → now_of (after_reported outcomes reported) ≡ now

  by_verdict : (used : Used) (message : Message) (verdict : Verdict) (reported : List AuthorityEntry) → now_of reported ≡ now →
      now_of (after_facts after_authority (facts_in (outcome mode (record blank { initial = first; used = used } ∷ entries) message verdict)) reported) ≡ now
  by_verdict used message (Accept announced) reported h =
      let all = record blank { initial = first; used = used } ∷ entries in
      now_by_packets message.group (place_by (own_place (place_of all) message) (fix_made all message announced)) now
      (filter (is_used mode (direction_of message announced)) message.packets) reported h
  by_verdict used message Ignore reported h = h
  by_verdict used message (Reaction a) reported h = h

  at_now : (group : Option Closed) (used : Used) → KeepsNow used.groups → KeepsNow (with_closed mode entries first group used).groups
  at_now None used keeps = keeps
  at_now (Some (closed.Broken b)) used keeps = keeps
  at_now (Some (closed.Whole message)) used keeps = λ reported h.
      let judgement : Judgement = judged (record blank { initial = first; used = used } ∷ entries) message in
      by_verdict (added (outcome_at_first message judgement.verdict) (asking_for judgement.effect used)) message judgement.verdict
      (after_reported used.groups reported) (keeps reported h)

all_now : (mode : Mode) (entries : List TrackEntry) (input : Input) → KeepsNow mode entries (initial entries input) (used_by mode entries input).groups
all_now mode entries input =
    let first = initial entries input in
    let closed = closed_by (groups_of entries) first.heard in
    let base : Used = record { groups = []; happened = happened_first entries input } in
    at_now mode entries first closed.whole (with_closed mode entries first closed.ended base) (at_now mode entries first closed.ended base (λ reported h. h))

now_by_clock : (clock : Option ℕ) (entries : List AuthorityEntry) → now_of (after_clock clock entries) ≡ unwrap_or clock (now_of entries)
now_by_clock None entries = refl
now_by_clock (Some moment) entries = refl

now_by_mode : (entered : Option Mode) (entries : List AuthorityEntry) → now_of (after_entered entered entries) ≡ now_of entries
now_by_mode None entries = refl
now_by_mode (Some mode) entries =
    let cases : (b : Bool) → now_of (cond b (authority_deleted entries) entries) ≡ now_of entries = elim [ true ↦ refl | false ↦ refl ] in
    cases (deleting item.Authority mode)

now_is : (events : List Event) → now_of (authorities (tracks (life_of events).entries)) ≡ moment_after events
now_is [] = refl
now_is (an_event.PowerUp c ∷ events) = refl
now_is (an_event.Input input ∷ events) =
    let life = life_of events in
    let event = reported life input in
    let before = tracks life.entries in
    let clock = event.initial.clock in
    let known = after_clock clock (authorities before) in
    ap now_of (by_event (entry_of life input).track before)
    ∙ now_by_mode (entry_of life input).track.entered (Passed (train life input) ∷ after_reported event.used.groups known)
    ∙ all_now (mode_of life.entries) before input known
    (now_by_clock clock (authorities before) ∙ ap (unwrap_or clock) (now_is events))

-- ---- one event

pub never_forward : (events : List Event) (input : Input) (new : End) → uses_authority events input ≡ false →
    moment_after events ≤ moment_after (an_event.Input input ∷ events) → end_after (an_event.Input input ∷ events) ≡ Some new →
    (old : End) × (end_after events ≡ Some old) × (new.place ≤ℤ old.place)
never_forward events input new none order is =
    let life = life_of events in
    let event = reported life input in
    let before = authorities (tracks life.entries) in
    let clock = event.initial.clock in
    let here : Span = train life input in
    let added = by_event (entry_of life input).track (tracks life.entries) in
    let reported_so = sym (same_end (tracks (life_of (an_event.Input input ∷ events)).entries) ∙ ap end_of added) ∙ is in
    let kept = past_mode (entry_of life input).track.entered (Passed here ∷ after_reported event.used.groups (after_clock clock before)) new reported_so in
    let alone : end_of (Passed here ∷ after_clock clock before) ≡ Some new =
    sym (ap (λ (entries : List AuthorityEntry). end_of (Passed here ∷ entries)) (no_groups event.used.groups (after_clock clock before) none)) ∙ kept in
    let at : now_of before ≡ moment_of (tracks life.entries) = now_is events in
    let sooner : now_of before ≤ unwrap_or clock (now_of before) =
    subst (λ (n : ℕ). n ≤ unwrap_or clock n) (sym at) order in
    let found = no_farther clock here before new sooner alone in
    (found.0, same_end (tracks life.entries) ∙ found.1, found.2)
