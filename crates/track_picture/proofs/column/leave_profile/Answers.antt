use Rattle.std.proofs.Common.{Bool, List, [], cond, ap, sym, ◌∙◌}
use Rattle.track_store.specs.Facts.{Fact, profile_of}
use Rattle.track_store.specs.Profiles.{profile_with}
use Rattle.track_store.proofs.Description.{none_reported}
use Rattle.track_picture.proofs.column.leave_profile.Goals as goal

pub returns-then-is_deleted-clause-profile : goal.returns-then-is_deleted-clause-profile
returns-then-is_deleted-clause-profile g c reported s =
    let deleted = sym c.is_deleted.ensures ∙ c.if-is_deleted.true in
    let none : List (Fact g.row.T.Denot) = [] in
    g.met.P.ProfileStore.profile_is _
    ∙ none_reported (profile_with g.P.Profile.value c.clear.new.self) reported.mark c.clear.ensures.value
    ∙ sym (ap (λ (b : Bool). profile_of (record { mark = reported.mark; facts = cond b none reported.facts })) deleted)
