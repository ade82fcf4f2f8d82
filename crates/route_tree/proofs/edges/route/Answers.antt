use Rattle.std.proofs.Common.{◌≡◌, ◌-◌, ap, ◌∙◌, map, arith}
use Rattle.std.specs.List.{range_with_len}
use Rattle.route_tree.specs.Parents.{edge_of, edges_of}
use Rattle.route_tree.proofs.RouteLaws.{is_route, all_near}
use Rattle.route_tree.proofs.edges.route.Goals as goal

pub returns-clause-route : goal.returns-clause-route
returns-clause-route c =
    let done : c.loop-i.i ≡ c.args.n = omega arith in
    let all : c.loop-i.edges.items ≡ edges_of c.args.top c.args.n c.args.source = c.loop-i.invariant ∙ ap (λ i. map (edge_of c.args.top c.args.n c.args.source) (range_with_len 1 (i - 1))) done in
    rw all (is_route c.args.top c.args.n c.args.source c.requires.source c.requires.branches)

pub returns-clause-near : goal.returns-clause-near
returns-clause-near c = λ hypercube d digits m member.
    let done : c.loop-i.i ≡ c.args.n = omega arith in
    let all : c.loop-i.edges.items ≡ edges_of c.args.top c.args.n c.args.source = c.loop-i.invariant ∙ ap (λ i. map (edge_of c.args.top c.args.n c.args.source) (range_with_len 1 (i - 1))) done in
    rw (all, hypercube) (all_near c.args.n c.args.source c.requires.source c.requires.limit d digits m member)
