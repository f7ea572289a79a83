use Rattle.std.proofs.Common.{sym, ap, ◌∙◌, append-nil, ◌++◌, List, pos, ◌+ℤ◌}
use Rattle.std.proofs.lemmas.List.{at_drop_all}
use Rattle.packets.specs.declared.authority.Section.{Section}
use Rattle.authority.specs.Entries.{fact_of}
use Rattle.authority.specs.Track.{timed_from, end_from}
use Rattle.authority.proofs.Storing.{made_is}
use Rattle.authority.proofs.accepting.store.Goals as goal

pub returns : goal.returns
returns c =
    let packet = c.args.packet.now in
    let sections = c.as_slice-sections.result.now in
    let same = c.as_slice-sections.ensures.value in
    let here = c.loop-section.at in
    let timers = at_drop_all (λ (rest : List Section). c.loop-section.stored.timed.items ++ timed_from packet.scale here rest) sections c.loop-section.section-index c.loop-section-test.false in
    let ends = at_drop_all (end_from packet.scale here) sections c.loop-section.section-index c.loop-section-test.false in
    made_is (fact_of packet c.args.place c.args.moment) c.loop-section.stored.timed.items c.push_timed-2.new.timed.items here c.ahead-end.result
    c.speed-stored.result c.speed-stored-2.result c.end_timer_by-stored.result c.point_by-stored.result c.overlap_by-stored.result
    (sym (append-nil c.loop-section.stored.timed.items) ∙ sym timers ∙ c.loop-section.invariant.timers ∙ ap (timed_from packet.scale c.args.place) same)
    (sym ends ∙ c.loop-section.invariant.end ∙ ap (end_from packet.scale c.args.place) same)
    c.push_timed-2.ensures.items (c.ahead-end.ensures.value ∙ ap (λ n. here +ℤ pos n) c.in_scale-2.ensures) c.speed-stored.ensures c.speed-stored-2.ensures c.end_timer_by-stored.ensures c.point_by-stored.ensures c.overlap_by-stored.ensures
