-- One kind of fact among those that count: what it takes to follow its own list, happening by happening.
use Rattle.std.proofs.Common.{◌≡◌, ℕ, ℤ, List, [], ◌∷◌, ◌++◌, Bool, true, false, cond, refl, ap, sym, ◌∙◌, ◌⊎◌, inl, inr}
use Rattle.std.specs.Prelude.{◌||◌, Option, Some, None, not, map, filter, filter_map}
use Rattle.std.specs.Option.{option_map_or}
use Rattle.std.proofs.lemmas.List.Elements.{filter_map-append, filter_agree}
use Rattle.areas.specs.declared.announcement.Announcement.{Announcement as AnnouncedLevel}
use Rattle.linking.specs.declared.announcement.Announcement.{Announcement}
use Rattle.packets.specs.declared.linking.Linking.{Linking}
use Rattle.packets.specs.declared.packet.Packet.{Packet}
use Rattle.vars.specs.declared.group.GroupIdentity.{GroupIdentity}
use Rattle.linking.specs.Linking as linking
use Rattle.linking.specs.Linking.{LinkEntry}
use Rattle.mode_table.specs.declared.mode.Mode.{Mode}
use Rattle.mode_table.specs.declared.statuses.Item.{Item}
use Rattle.track_store.specs.Profiles.{listed}
use Rattle.track_store.proofs.Standing.{filter-true}
use Rattle.track_picture.specs.Announcing.{announcements_of}
use Rattle.track_picture.specs.Entry.{Fact}
use Rattle.track_picture.specs.Columns.{TrackReports, nothing_reported, after, reported_in}
use Rattle.track_picture.specs.Live.{Happening, TrackFact, brought, missed_by, ends, live, deleting}
use Rattle.track_picture.specs.Parts.{newest}

-- ---- filters that keep all or nothing

pub lost_all : {X : Type 0} (xs : List X) → filter (λ x. false) xs ≡ []
lost_all [] = refl
lost_all (x ∷ xs) = lost_all xs

pub kept_if : {X : Type 0} (p : X → Bool) → ((x : X) → p x ≡ false) → (xs : List X) → filter (λ x. not (p x)) xs ≡ xs
kept_if p none [] = refl
kept_if p none (x ∷ xs) =
    ap (λ b. cond (not b) (x ∷ filter (λ y. not (p y)) xs) (filter (λ y. not (p y)) xs)) (none x) ∙ ap (λ ys. x ∷ ys) (kept_if p none xs)

-- what one test and then another leave
both_one : {X : Type 0} (p : X → Bool) (a : Bool) (x : X) (ys : List X) →
    filter (λ y. not (p y)) (cond (not a) (x ∷ ys) ys) ≡ cond (not (a || p x)) (x ∷ filter (λ y. not (p y)) ys) (filter (λ y. not (p y)) ys)
both_one p true x ys = refl
both_one p false x ys = refl

pub filter_both : {X : Type 0} (p q : X → Bool) (xs : List X) →
    filter (λ x. not (p x)) (filter (λ x. not (q x)) xs) ≡ filter (λ x. not (q x || p x)) xs
filter_both p q [] = refl
filter_both p q (x ∷ xs) =
    both_one p (q x) x (filter (λ y. not (q y)) xs) ∙ ap (λ ys. cond (not (q x || p x)) (x ∷ ys) ys) (filter_both p q xs)

-- a list of one or none
pub newest_listed : {X : Type 0} (x : Option X) → newest (listed x) ≡ x
newest_listed None = refl
newest_listed (Some x) = refl

-- a used packet
abbrev pub fact_with : GroupIdentity → ℤ → ℕ → Packet → Fact
fact_with group place moment packet = record { group = group; place = place; moment = moment; packet = packet }

-- ---- a kind

pub record Kind (X : Type 0) : Type 0 where
  pub wrap : X → TrackFact
  pub read : TrackFact → Option X
  pub view : (f : TrackFact) → (read f ≡ None) ⊎ ((x : X) × (read f ≡ Some x) × (f ≡ wrap x))

module _ {X : Type 0} (kind : Kind X) where
  abbrev pub value : List Happening → List X
  value hs = filter_map kind.read (live hs)

  abbrev pub ended : Happening → X → Bool
  ended h x = ends h (kind.wrap x)

  skip : (b : Bool) (f : TrackFact) (fs : List TrackFact) → kind.read f ≡ None →
      filter_map kind.read (cond b (f ∷ fs) fs) ≡ filter_map kind.read fs
  skip true f fs n = rw n refl
  skip false f fs n = refl

  take : (b c : Bool) (f : TrackFact) (x : X) (fs : List TrackFact) → b ≡ c → kind.read f ≡ Some x →
      filter_map kind.read (cond b (f ∷ fs) fs) ≡ cond c (x ∷ filter_map kind.read fs) (filter_map kind.read fs)
  take true true f x fs e r = rw r refl
  take true false f x fs e r = absurd cc
  take false true f x fs e r = absurd cc
  take false false f x fs e r = refl

  filtered : (h : Happening) (fs : List TrackFact) →
      filter_map kind.read (filter (λ f. not (ends h f)) fs) ≡ filter (λ x. not (ended h x)) (filter_map kind.read fs)
  filtered h [] = refl
  filtered h (f ∷ fs) =
      let rest = filter (λ g. not (ends h g)) fs in
      elim (kind.view f) [
        | inl n ↦ skip (not (ends h f)) f rest n ∙ rw n (filtered h fs)
        | inr (x, r, e) ↦
            take (not (ends h f)) (not (ended h x)) f x rest (ap (λ g. not (ends h g)) e) r
            ∙ rw (r, filtered h fs) refl
      ]

  pub step : (h : Happening) (hs : List Happening) → value (h ∷ hs) ≡ filter_map kind.read (brought h) ++ filter (λ x. not (ended h x)) (value hs)
  step h hs =
      filter_map-append kind.read (brought h) (filter (λ f. not (ends h f)) (live hs))
      ∙ ap (λ xs. filter_map kind.read (brought h) ++ xs) (filtered h (live hs))

  pub step_to : (h : Happening) (hs : List Happening) (xs : List X) → value hs ≡ xs →
      value (h ∷ hs) ≡ filter_map kind.read (brought h) ++ filter (λ x. not (ended h x)) xs
  step_to h hs xs r = step h hs ∙ ap (λ ys. filter_map kind.read (brought h) ++ filter (λ x. not (ended h x)) ys) r

  pub unmoved : (h : Happening) (hs : List Happening) → filter_map kind.read (brought h) ≡ [] → ((x : X) → ended h x ≡ false) →
      value (h ∷ hs) ≡ value hs
  unmoved h hs none keeps =
      step h hs ∙ (ap (λ xs. xs ++ filter (λ x. not (ended h x)) (value hs)) none ∙ kept_if (ended h) keeps (value hs))

  -- ---- what isn't of the kind

  -- facts of which none is of the kind add nothing
  dropped : (news : List TrackFact) (xs : List X) → filter_map kind.read news ≡ [] →
      filter_map kind.read news ++ filter (λ x. true) xs ≡ xs
  dropped news xs none = ap (λ ys. ys ++ filter (λ x. true) xs) none ∙ filter-true xs

  no_miss : kind.read TrackFact.Miss ≡ None → (entry : LinkEntry) → filter_map kind.read (missed_by entry) ≡ []
  no_miss n (linking.LinkEntry.Announced announcements) = refl
  no_miss n (linking.LinkEntry.Accepted number) = refl
  no_miss n (linking.LinkEntry.Reacted number) = refl
  no_miss n (linking.LinkEntry.Missed number) = rw n refl

  pub past_linked : kind.read TrackFact.Miss ≡ None → (entry : LinkEntry) (xs : List X) →
      filter_map kind.read (missed_by entry) ++ filter (λ x. true) xs ≡ xs
  past_linked n entry xs = dropped (missed_by entry) xs (no_miss n entry)

  pub no_links : ((a : Announcement) → kind.read (TrackFact.Link a) ≡ None) → (announcements : List Announcement) →
      filter_map kind.read (map TrackFact.Link announcements) ≡ []
  no_links n [] = refl
  no_links n (a ∷ announcements) = rw (n a) (no_links n announcements)

  pub past_links : ((a : Announcement) → kind.read (TrackFact.Link a) ≡ None) → (group : GroupIdentity) (place : ℤ) (p : Linking) (xs : List X) →
      filter_map kind.read (map TrackFact.Link (linking.numbered (announcements_of group place p))) ++ filter (λ x. true) xs ≡ xs
  past_links n group place p xs =
      let announcements = linking.numbered (announcements_of group place p) in
      dropped (map TrackFact.Link announcements) xs (no_links n announcements)

  pub no_level : ((level : AnnouncedLevel) → kind.read (TrackFact.Level level) ≡ None) → (reported : Option AnnouncedLevel) →
      filter_map kind.read (option_map_or (λ level. TrackFact.Level level ∷ []) reported []) ≡ []
  no_level n None = refl
  no_level n (Some level) = rw (n level) refl

  pub past_level : ((level : AnnouncedLevel) → kind.read (TrackFact.Level level) ≡ None) → (reported : Option AnnouncedLevel) (xs : List X) →
      filter_map kind.read (option_map_or (λ level. TrackFact.Level level ∷ []) reported []) ++ filter (λ x. true) xs ≡ xs
  past_level n reported xs = dropped (option_map_or (λ level. TrackFact.Level level ∷ []) reported []) xs (no_level n reported)

  -- ---- a kind is what its list reports, where each happening gives the one what it gives the other

  abbrev pub Follows : (TrackReports → List X) → Happening → TrackReports → Type 0
  Follows inner h reported = filter_map kind.read (brought h) ++ filter (λ x. not (ended h x)) (inner reported) ≡ inner (after h reported)

  pub follows : (inner : TrackReports → List X) → inner nothing_reported ≡ [] → ((h : Happening) (reported : TrackReports) → Follows inner h reported) →
      (hs : List Happening) → value hs ≡ inner (reported_in hs)
  follows inner none one [] = sym none
  follows inner none one (h ∷ hs) = step_to h hs (inner (reported_in hs)) (follows inner none one hs) ∙ one h (reported_in hs)

  -- ---- a mode that deletes an item

  pub by_mode : {E : Type 0} (inner : List E → List X) (clear : List E → List E) → ((es : List E) → inner (clear es) ≡ []) →
      (deleted : Bool) (es : List E) → filter (λ x. not deleted) (inner es) ≡ inner (cond deleted (clear es) es)
  by_mode inner clear cleared true es = lost_all (inner es) ∙ sym (cleared es)
  by_mode inner clear cleared false es = filter-true (inner es)

  pub stays : (item : Item) → ((mode : Mode) → deleting item mode ≡ false) → ((mode : Mode) (x : X) → ended (Happening.Entered mode) x ≡ deleting item mode) →
      (mode : Mode) (hs : List Happening) → value (Happening.Entered mode ∷ hs) ≡ value hs
  stays item none by_mode mode hs = unmoved (Happening.Entered mode) hs refl (λ x. by_mode mode x ∙ none mode)

  lost_if : (b : Bool) (xs : List X) → b ≡ true → filter (λ x. not b) xs ≡ []
  lost_if true xs e = lost_all xs
  lost_if false xs e = absurd cc

  pub deleted : (item : Item) → ((mode : Mode) (x : X) → ended (Happening.Entered mode) x ≡ deleting item mode) →
      (mode : Mode) (hs : List Happening) → deleting item mode ≡ true → value (Happening.Entered mode ∷ hs) ≡ []
  deleted item by_mode mode hs e =
      step (Happening.Entered mode) hs
      ∙ (filter_agree (λ x. not (ended (Happening.Entered mode) x)) (λ x. not (deleting item mode)) (λ x. ap not (by_mode mode x)) (value hs)
      ∙ lost_if (deleting item mode) (value hs) e)
