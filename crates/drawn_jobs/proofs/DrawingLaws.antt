-- One drawn number more.
use Rattle.std.specs.Prelude.{◌≡◌, ℕ, suc, ◌+◌, ◌/◌, ◌^◌, ◌<◌, ℤ, pos, List, [], ◌∷◌, ◌++◌}
use Rattle.std.specs.Int.{int_wrap, w32}
use Rattle.std.proofs.Common.{refl, sym, ap, ◌∙◌, arith, to_z}
use Rattle.std.proofs.Math.Nat.{mod-eq_of_lt}
use Rattle.std.proofs.lemmas.List.FromFn.{map-range_with_len_more}
use Rattle.msg_core.specs.Drawn.{next_state}
use Rattle.drawn_jobs.specs.Drawing.{state_after, drawn_word, drawn_words}

-- the bits of a number below 2^32, in two's complement
pub wrapped : (n : ℕ) → n < 2 ^ 32 → to_z w32 n ≡ int_wrap w32 (pos n)
unfolding int_wrap
wrapped n lt = ap (to_z w32) (sym (mod-eq_of_lt lt))

pub begins : (seed : ℕ) → seed ≡ state_after seed 0
unfolding state_after
begins seed = refl

pub next_is : (seed k : ℕ) → state_after seed (k + 1) ≡ next_state (state_after seed k)
unfolding state_after
next_is seed k = ap (state_after seed) (let e : k + 1 ≡ suc k = omega arith in e)

pub one_more : (seed k : ℕ) (words : List ℤ) (state next : ℕ) (word : ℤ) → words ≡ drawn_words seed k → state ≡ state_after seed k → next ≡ next_state state → word ≡ int_wrap w32 (pos (next / 2 ^ 32))
    → words ++ word ∷ [] ≡ drawn_words seed (k + 1)
one_more seed k words state next word e g h w =
    ap (λ (l : List ℤ). l ++ word ∷ []) e
    ∙ ap (λ (x : ℤ). drawn_words seed k ++ x ∷ []) (w ∙ ap (λ n. int_wrap w32 (pos (n / 2 ^ 32))) (h ∙ ap next_state g))
    ∙ sym (map-range_with_len_more (drawn_word seed) 0 k k (omega arith))

pub state_more : (seed k state next : ℕ) → state ≡ state_after seed k → next ≡ next_state state → next ≡ state_after seed (k + 1)
state_more seed k state next e g = g ∙ ap next_state e ∙ sym (next_is seed k)
