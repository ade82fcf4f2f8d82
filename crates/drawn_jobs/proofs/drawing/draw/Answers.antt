-- One drawn number more.
use Rattle.std.proofs.Common.{◌++◌, ◌∷◌, ℤ, [], ap, ◌∙◌, rules, FitsSigned, to_z-of_z}
use Rattle.std.specs.Int.{w32}
use Rattle.drawn_jobs.proofs.DrawingLaws.{begins, one_more, state_more}
use Rattle.drawn_jobs.proofs.drawing.draw.Goals as goal

pub loop-k-init : goal.loop-k-init
loop-k-init c = record { words = c.in_ok-words.ensures.items; state = begins c.args.seed }

pub loop-k-preserved : goal.loop-k-preserved
loop-k-preserved c =
    let word : ℤ = c.upper_half.result in
    let fits : FitsSigned w32 word = search rules in
    record {
      words = c.in_ok-push.ensures.items ∙ ap (λ (x : ℤ). c.loop-k.words.items ++ x ∷ []) (to_z-of_z fits)
          ∙ one_more c.args.seed c.loop-k._k c.loop-k.words.items c.loop-k.state c.next_state-state.result word c.loop-k.invariant.words c.loop-k.invariant.state c.next_state-state.ensures c.upper_half.ensures;
      state = state_more c.args.seed c.loop-k._k c.loop-k.state c.next_state-state.result c.loop-k.invariant.state c.next_state-state.ensures;
    }
