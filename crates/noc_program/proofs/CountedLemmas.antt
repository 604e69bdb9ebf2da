-- What a writer that counts shows as bytes are written and counted.
use Rattle.std.proofs.Common.{◌≡◌, ℕ, ◌+◌, ◌-◌, List, ◌∷◌, Option, Some, None, ap, ap₂, arith, length, length-append, ◌∙◌}
use Rattle.std.specs.Io.KnownBytes.{Appends, Keeps}
use Rattle.noc_program.specs.Counted.{with_start}

pub counted_kept : (taken : ℕ) (old new : Option (List ℕ)) → Keeps old new → Keeps (with_start taken old) (with_start taken new)
counted_kept taken None new keeps = tt
counted_kept taken (Some xs) None keeps = absurd keeps
counted_kept taken (Some xs) (Some ys) keeps = ap (λ (zs : List ℕ). (length zs - taken) ∷ (taken - length zs) ∷ zs) keeps

pub counted_more : (before taken n : ℕ) (old new : Option (List ℕ)) (bytes : List ℕ) → length bytes ≡ n → taken ≡ before + n → Appends old new bytes
    → Appends (with_start before old) (with_start taken new) bytes
counted_more before taken n None new bytes long count appends = tt
counted_more before taken n (Some xs) None bytes long count appends = absurd appends
counted_more before taken n (Some xs) (Some ys) bytes long count appends =
    let whole : length ys ≡ length xs + n = ap length appends ∙ length-append xs bytes ∙ ap (λ k. length xs + k) long in
    let more : length ys - taken ≡ length xs - before = omega (arith, whole, count) in
    let fewer : taken - length ys ≡ before - length xs = omega (arith, whole, count) in
    ap₂ (λ (k : ℕ) (zs : List ℕ). k ∷ zs) more (ap₂ (λ (k : ℕ) (zs : List ℕ). k ∷ zs) fewer appends)
