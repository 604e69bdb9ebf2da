-- The list of all packets that start, router by router.
use Rattle.std.proofs.Common.{◌≡◌, ◌≢◌, ℕ, zero, suc, ◌+◌, ◌*◌, ◌^◌, ◌<◌, ◌≤◌, List, [], ◌∷◌, ◌++◌, Some, length, map, take, get_or, refl, ap, sym, ◌∙◌, arith, inl, inr, length-append, mul-le-mul}
use Rattle.std.specs.Prelude.{◌⊎◌, slice_get}
use Rattle.std.proofs.lemmas.Bool.{cases_eq}
use Rattle.std.proofs.lemmas.List.{length-map}
use Rattle.noc_packet.specs.declared.packet.Packet.{Packet}
use Rattle.noc_columns.specs.Sources.{start_by, starts_by}
use Rattle.noc_columns.specs.declared.starts.Start.{Start as Kept}
use Rattle.noc_theory_bits.specs.Starts.{start_of, starts_list}
use Rattle.noc_theory_bits.proofs.opening.ListedLemmas.{list-few}
use Rattle.noc_theory_cycles.specs.Firsts.{AreFirsts, first_of}
use Rattle.noc_cycles.specs.declared.first.First.{First}

-- one packet more of a queue
pub more-starts : (queue : List (ℕ × Packet)) (i : ℕ) (one : ℕ × Packet) → i < length queue → map start_of (take (i + 1) queue) ≡ map start_of (take i queue) ++ start_of (get_or queue i one) ∷ []
more-starts [] i one l = absurd (omega (arith, l))
more-starts (x ∷ xs) zero one l = refl
more-starts (x ∷ xs) (suc i) one l =
    let n : suc i + 1 ≡ suc (i + 1) = omega arith in
    ap (λ k. map start_of (take k (x ∷ xs))) n ∙ ap (λ ys. start_of x ∷ ys) (more-starts xs i one (omega (arith, l)))

-- ---- how long it is
pub list-short : (packets : List Packet) (n : ℕ) (kept : List Kept) → length packets ≤ 20000 → n ≤ 256 → starts_by kept ≡ starts_list packets n → length kept < 2 ^ 32
list-short packets n kept few small is =
    let many : length kept ≡ length (starts_list packets n) = sym (length-map kept start_by) ∙ ap length is in
    let list = list-few packets n in
    let more : length packets + 1 ≤ 20001 = omega (arith, few) in
    let most : n * (length packets + 1) ≤ 256 * 20001 = mul-le-mul small more in
    omega (arith, many, list, most)

pub list-place : (packets : List Packet) (n : ℕ) (kept : List Kept) → starts_by kept ≡ starts_list packets n → length kept ≡ length (starts_list packets n)
list-place packets n kept is = sym (length-map kept start_by) ∙ ap length is

-- ---- the first packet of one router more
at-seam : {X : Type 0} (xs : List X) (x : X) → slice_get (xs ++ x ∷ []) (length xs) ≡ Some x
at-seam [] x = refl
at-seam (w ∷ xs) x = at-seam xs x

before-seam : {X : Type 0} (xs : List X) (x : X) (i : ℕ) → i < length xs → slice_get (xs ++ x ∷ []) i ≡ slice_get xs i
before-seam [] x i l = absurd (omega (arith, l))
before-seam (w ∷ xs) x zero l = refl
before-seam (w ∷ xs) x (suc i) l = before-seam xs x i (omega (arith, l))

pub firsts-none : (packets : List Packet) → AreFirsts packets 0 []
firsts-none packets = record { many = refl; each = λ r l. absurd (omega (arith, l)) }

pub firsts-next : (packets : List Packet) (n : ℕ) (firsts : List First) (one : First) → AreFirsts packets n firsts → one ≡ first_of packets n → AreFirsts packets (n + 1) (firsts ++ one ∷ [])
firsts-next packets n firsts one are is = record {
  many = length-append firsts (one ∷ []) ∙ ap (λ k. k + 1) are.many;
  each = λ r l. at r l (cases_eq r n);
}
  where
    at : (r : ℕ) → r < n + 1 → (r ≡ n) ⊎ (r ≢ n) → slice_get (firsts ++ one ∷ []) r ≡ Some (first_of packets r)
    at r l (inl same) = ap (slice_get (firsts ++ one ∷ [])) (same ∙ sym are.many) ∙ at-seam firsts one ∙ ap Some (is ∙ ap (first_of packets) (sym same))
    at r l (inr other) =
        let below : r < length firsts = let m = are.many in omega (arith, l, other, m) in
        before-seam firsts one r below ∙ are.each r (omega (arith, l, other))
