-- A test of one number more.
use Rattle.std.proofs.Common.{◌≡◌, ℕ, ◌+◌, Bool, refl, ap, ◌∙◌, sym, add-one, get_or, List}
use Rattle.std.specs.Prelude.{◌||◌, ◌&&◌}
use Rattle.noc_packet.specs.Set.{has_bit}
use Rattle.noc_steps.specs.Reached.{any_below}

pub any_below-more : (n : ℕ) (test : ℕ → Bool) → any_below (n + 1) test ≡ (any_below n test || test n)
any_below-more n test = rw add-one refl

-- one input channel more
pub taken-more : (sets : List ℕ) (coming first n all more set : ℕ) (is_added : Bool) → set ≡ get_or sets (first + n) 0 → is_added ≡ has_bit coming n
    → ((k : ℕ) → has_bit more k ≡ (has_bit all k || (is_added && has_bit set k)))
    → ((k : ℕ) → has_bit all k ≡ any_below n (λ i. has_bit coming i && has_bit (get_or sets (first + i) 0) k))
    → (k : ℕ) → has_bit more k ≡ any_below (n + 1) (λ i. has_bit coming i && has_bit (get_or sets (first + i) 0) k)
taken-more sets coming first n all more set is_added same come either had k =
    let F : ℕ → Bool = λ i. has_bit coming i && has_bit (get_or sets (first + i) 0) k in
    either k ∙ ap (λ b. b || (is_added && has_bit set k)) (had k) ∙ ap (λ b. any_below n F || (b && has_bit set k)) come
    ∙ ap (λ s. any_below n F || (has_bit coming n && has_bit s k)) same ∙ sym (any_below-more n F)
