use Rattle.std.proofs.Common.{◌∙◌, ap, sym}
use Rattle.mail_room.specs.Desks.{side_of, capacities}
use Rattle.thread_tests.specs.Pairs.{two_messages}
use Rattle.thread_tests.proofs.Sides.{first_of_two}
use Rattle.thread_tests.proofs.pair.open_desks.Goals as goal

pub returns-clause-sender : goal.returns-clause-sender
returns-clause-sender g c =
    let both = first_of_two c.in_ok-room.room c.pop.new.self.items c.pop-2.new.self.items c.in-Some-pop.first c.in-Some.second c.in_ok-room.ensures.ranks (sym c.in_ok-desks.ensures ∙ c.in-Some.ensures.items) c.in-Some-pop.ensures.items in
    (c.in_ok-room.ensures.desks 0 c.in-Some-pop.first both.0).outs 1 ∙ ap (λ l. side_of two_messages (capacities l 0 1) 0) c.as_slice.ensures

pub returns-clause-receiver : goal.returns-clause-receiver
returns-clause-receiver g c =
    let both = first_of_two c.in_ok-room.room c.pop.new.self.items c.pop-2.new.self.items c.in-Some-pop.first c.in-Some.second c.in_ok-room.ensures.ranks (sym c.in_ok-desks.ensures ∙ c.in-Some.ensures.items) c.in-Some-pop.ensures.items in
    (c.in_ok-room.ensures.desks 1 c.in-Some.second both.1).ins 0 ∙ ap (λ l. side_of two_messages (capacities l 0 1) 0) c.as_slice.ensures
