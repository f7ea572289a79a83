-- What stays so of the happenings while they grow by the groups of an event.
use Rattle.std.proofs.Common.{List, [], ◌∷◌}
use Rattle.std.specs.Prelude.{ℕ, Option, Some, None, not, filter}
use Rattle.std.specs.Option.{option_map_or}
use Rattle.vars.specs.declared.group.GroupIdentity.{GroupIdentity}
use Rattle.linking.specs.declared.announcement.Announcement.{Announcement}
use Rattle.linking.specs.Linking as linking
use Rattle.linking.specs.Linking.{LinkEntry}
use Rattle.linking.specs.Judging.{meant}
use Rattle.odometry.specs.declared.fix.Fix.{Fix}
use Rattle.track_picture.specs.Entry.{Fact, Outcome}
use Rattle.track_picture.specs.Live.{Happening}
use Rattle.track_picture.specs.Parts.{links_in}
use Rattle.track_picture.specs.Happenings.{and_fixed, and_missed, and_judged, and_reported, and_used, comes_later}

module _ (P : List Happening → Type 0) where
  pub past_reported : ((fact : Fact) (hs : List Happening) → P hs → P (Happening.Reported fact ∷ hs)) → (facts : List Fact) (hs : List Happening) → P hs →
      P (and_reported facts hs)
  past_reported one [] hs p = p
  past_reported one (fact ∷ facts) hs p = past_reported one facts (Happening.Reported fact ∷ hs) (one fact hs p)

  pub past_used : ((fact : Fact) (hs : List Happening) → P hs → P (Happening.Reported fact ∷ hs)) → (facts : List Fact) (hs : List Happening) → P hs →
      P (and_used facts hs)
  past_used one facts hs p =
      let first = filter (λ f. not (comes_later f.packet)) facts in
      past_reported one (filter (λ f. comes_later f.packet) facts) (and_reported first hs) (past_reported one first hs p)

  pub past_missed : ((entry : LinkEntry) (hs : List Happening) → P hs → P (Happening.Linked entry ∷ hs)) →
      (announcements : List Announcement) (hs : List Happening) → P hs → P (and_missed announcements hs)
  past_missed linked [] hs p = p
  past_missed linked (a ∷ announcements) hs p =
      let entry = linking.LinkEntry.Missed a.number in
      past_missed linked announcements (Happening.Linked entry ∷ hs) (linked entry hs p)

  pub past_taken : ((entry : LinkEntry) (hs : List Happening) → P hs → P (Happening.Linked entry ∷ hs)) →
      (as_entry : ℕ → LinkEntry) (a : Option Announcement) (hs : List Happening) → P hs →
      P (option_map_or (λ b. Happening.Linked (as_entry b.number) ∷ hs) a hs)
  past_taken linked as_entry None hs p = p
  past_taken linked as_entry (Some a) hs p = linked (as_entry a.number) hs p

  past_fixed : ((group : GroupIdentity) (fix : Fix) (hs : List Happening) → P hs → P (Happening.Fixed group fix ∷ hs)) →
      (group : GroupIdentity) (fix : Option Fix) (hs : List Happening) → P hs → P (and_fixed group fix hs)
  past_fixed fixed group None hs p = p
  past_fixed fixed group (Some fix) hs p = fixed group fix hs p

  pub past_judged : ((entry : LinkEntry) (hs : List Happening) → P hs → P (Happening.Linked entry ∷ hs)) →
      ((group : GroupIdentity) (hs : List Happening) → P hs → P (Happening.Accepted group ∷ hs)) →
      ((group : GroupIdentity) (fix : Fix) (hs : List Happening) → P hs → P (Happening.Fixed group fix ∷ hs)) →
      (outcome : Outcome) (hs : List Happening) → P hs → P (and_judged outcome hs)
  past_judged linked accepted fixed (Outcome.Broken b) hs p =
      past_taken linked linking.LinkEntry.Reacted (meant (links_in hs) b.group b.linked) hs p
  past_judged linked accepted fixed (Outcome.Ignored message) hs p = p
  past_judged linked accepted fixed (Outcome.Rejected message a) hs p = linked (linking.LinkEntry.Reacted a.number) hs p
  past_judged linked accepted fixed (Outcome.Accepted message announced fix facts) hs p =
      (let taken = option_map_or (λ a. Happening.Linked (linking.LinkEntry.Accepted a.number) ∷ hs) announced hs in
      past_fixed fixed message.group fix (Happening.Accepted message.group ∷ taken)
      (accepted message.group taken (past_taken linked linking.LinkEntry.Accepted announced hs p)))
