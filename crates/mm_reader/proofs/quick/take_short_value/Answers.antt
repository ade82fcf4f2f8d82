use Rattle.std.proofs.Common.{◌≡◌, ◌+◌, ℕ, List, min, take, length, ap, subst, arith}
use Rattle.mm_reader.specs.ReaderView.{ReaderView}
use Rattle.mm_reader.specs.Short.{ValueStands}
use Rattle.mm_reader.proofs.ShortTaking.{short_taken, stands_whole, taken_as}
use Rattle.mm_reader.proofs.quick.take_short_value.Goals as goal

pub take_at_hand-requires-clause-whole : goal.take_at_hand-requires-clause-whole
take_at_hand-requires-clause-whole c =
    stands_whole c.args.reader.now.waiting (min (length c.at_hand.result.now) 32) c.in_ok-value.value c.in_ok-value.used
    (subst (λ (bs : List ℕ). ValueStands (take (min (length c.at_hand.result.now) 32) bs) c.in_ok-value.value c.in_ok-value.used) c.at_hand.ensures c.in_ok-value.ensures.stands)

pub returns-clause-value : goal.returns-clause-value
returns-clause-value c =
    let stands : ValueStands (take (min (length c.at_hand.result.now) 32) c.args.reader.now.waiting) c.in_ok-value.value c.in_ok-value.used
    = subst (λ (bs : List ℕ). ValueStands (take (min (length c.at_hand.result.now) 32) bs) c.in_ok-value.value c.in_ok-value.used) c.at_hand.ensures c.in_ok-value.ensures.stands in
    let taken = c.if-not-take_at_hand.ensures.taken in
    let near = c.if-not-take_at_hand.ensures.near in
    let before : c.take_at_hand.new.self.before ≡ c.args.reader.now.before + c.in_ok-value.used = ap (λ (v : ReaderView). v.before) taken in
    taken_as c.args.reader.now c.take_at_hand.new.self c.in_ok-value.value
    (short_taken c.args.reader.now c.take_at_hand.new.self c.in_ok-value.value (min (length c.at_hand.result.now) 32) c.in_ok-value.used stands (omega arith) (omega (arith, near, before)) (ap (λ (v : ReaderView). v.waiting) taken) before (ap (λ (v : ReaderView). v.number) taken))
