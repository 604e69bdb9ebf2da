-- What a router counts of its input channels.
use Rattle.std.proofs.Common.{◌≡◌, ℕ, ◌+◌, ◌-◌, ◌^◌, ◌<◌, ◌≤◌, Bool, true, false, List, [], length, get_or, replicate, set, sum, refl, ap, sym, ◌∙◌, ⊎_elim, arith}
use Rattle.std.specs.Prelude.{All, nat_lt, if◌then◌else◌}
use Rattle.std.proofs.lemmas.Bool.{cases_eq, le-ltb, lt-ltb}
use Rattle.std.proofs.lemmas.List.{get_or-replicate, get_or-set_other, get_or-set_same, get_or_default, length-replicate, length-set}
use Rattle.noc_topo.specs.Lists.{map_indexed, tabulate}
use Rattle.noc_topo.proofs.ListLemmas.{get_or-map_indexed, get_or-tabulate, length-map_indexed, length-tabulate, map_indexed-from_each}
use Rattle.noc_vc.specs.Input.{Input}
use Rattle.noc_view.specs.Verdict.{column}
use Rattle.noc_view.specs.Found.{empty_finding, finding_at}
use Rattle.noc_view.specs.View.{PlanContents, counts_after}
use Rattle.noc_view.specs.declared.finding.Finding.{Finding}
use Rattle.noc_view.specs.declared.verdict.Verdict.{Verdict}
use Rattle.noc_view.proofs.ColumnLemmas.{column-small, sum-raised}
use Rattle.noc_router.specs.Settled.{finding_by, planned_verdict}
use Rattle.noc_router.specs.Tally.{HaveVerdicts, IsTally}

-- with room, one of the counts of a channel rises
pub raised-is : (v : Verdict) (xs : List ℕ) → sum xs < 2 ^ 64 - 1 → set xs (column v) (get_or xs (column v) 0 + 1) ≡ counts_after v xs
raised-is v xs room = sym (ap (λ b. if b then set xs (column v) (get_or xs (column v) 0 + 1) else xs) (lt-ltb (sum xs) (2 ^ 64 - 1) room))

sum-counted : (v : Verdict) (xs : List ℕ) → length xs ≡ 10 → sum xs < 2 ^ 64 - 1 → sum (counts_after v xs) ≡ sum xs + 1
sum-counted v xs ten room = ap sum (sym (raised-is v xs room)) ∙ sum-raised xs (column v) (omega (arith, column-small v, ten))

length-counted : (v : Verdict) (xs : List ℕ) → length (counts_after v xs) ≡ length xs
length-counted v xs = at (nat_lt (sum xs) (2 ^ 64 - 1))
  where
    at : (b : Bool) → length (if b then set xs (column v) (get_or xs (column v) 0 + 1) else xs) ≡ length xs
    at true = length-set xs (column v) (get_or xs (column v) 0 + 1)
    at false = refl

-- where the cycles are the greatest number nothing is counted any more
pub full-same : (verdict : ℕ → Verdict) (cycles : ℕ) (counts : List (List ℕ)) (findings : List Finding) → IsTally cycles counts findings → 2 ^ 64 - 1 ≤ cycles
    → counts ≡ map_indexed (λ i xs. counts_after (verdict i) xs) counts
full-same verdict cycles counts findings is full =
    map_indexed-from_each (λ i xs. counts_after (verdict i) xs) counts counts [] [] refl
    (λ i l. let xs = get_or counts i [] in
    sym (ap (λ b. if b then set xs (column (verdict i)) (get_or xs (column (verdict i)) 0 + 1) else xs) (le-ltb (sum xs) (2 ^ 64 - 1) (omega (arith, is.sums i l)))))

-- with room for a cycle there is room in each channel
pub counted-room : (cycles : ℕ) (counts : List (List ℕ)) (findings : List Finding) (xs : List (List ℕ)) → IsTally cycles counts findings → cycles < 2 ^ 64 - 1 → xs ≡ counts → All (λ one. sum one < 2 ^ 64 - 1) xs
counted-room cycles counts findings xs is room same k d l =
    let m : k < length counts = omega (arith, l, ap (λ (ys : List (List ℕ)). length ys) same) in
    let e : sum (get_or xs k d) ≡ cycles = ap (λ ys. sum (get_or ys k d)) same ∙ ap sum (get_or_default counts k d [] m) ∙ is.sums k m in
    omega (arith, e, room)

-- nothing is counted yet
pub opened-tally : (n : ℕ) (counts : List (List ℕ)) (findings : List Finding) → counts ≡ replicate n (replicate 10 0) → length findings ≡ length counts → IsTally 0 counts findings
opened-tally n counts findings is found = record {
  fits = omega arith;
  ten = λ i l. ap length (at i l);
  sums = λ i l. ap sum (at i l);
  found = found;
}
  where
    at : (i : ℕ) → i < length counts → get_or counts i [] ≡ replicate 10 0
    at i l =
        let ten : List ℕ = replicate 10 0 in
        ap (λ (xs : List (List ℕ)). get_or xs i []) is ∙ get_or-replicate n i ten [] (omega (arith, l, ap (λ (xs : List (List ℕ)). length xs) is, length-replicate n ten))

-- a cycle more is counted, with what is found in it
pub noted-tally : (verdict : ℕ → Verdict) (cycles : ℕ) (counts : List (List ℕ)) (findings found : List Finding) → IsTally cycles counts findings → cycles < 2 ^ 64 - 1 → length found ≡ length findings
    → IsTally (cycles + 1) (map_indexed (λ i xs. counts_after (verdict i) xs) counts) found
noted-tally verdict cycles counts findings found is room same = record {
  fits = omega arith;
  ten = λ i l. let m : i < length counts = omega (arith, long) in ap length (at i m) ∙ length-counted (verdict i) (get_or counts i []) ∙ is.ten i m;
  sums = λ i l. let m : i < length counts = omega (arith, long) in
      ap sum (at i m) ∙ sum-counted (verdict i) (get_or counts i []) (is.ten i m) (omega (arith, is.sums i m)) ∙ ap (λ n. n + 1) (is.sums i m);
  found = same ∙ is.found ∙ sym long;
}
  where
    long : length (map_indexed (λ i xs. counts_after (verdict i) xs) counts) ≡ length counts
    long = length-map_indexed (λ i xs. counts_after (verdict i) xs) counts

    at : (i : ℕ) → i < length counts → get_or (map_indexed (λ i xs. counts_after (verdict i) xs) counts) i [] ≡ counts_after (verdict i) (get_or counts i [])
    at i l = get_or-map_indexed (λ i xs. counts_after (verdict i) xs) counts i [] [] l

-- the channels before the first `n` are counted, and the others are not
pub record AreCountedTo (verdict : ℕ → Verdict) (old now : List (List ℕ)) (n : ℕ) : Type 0 where
  pub done : (k : ℕ) → k < n → get_or now k [] ≡ counts_after (verdict k) (get_or old k [])
  pub behind : (k : ℕ) → n ≤ k → get_or now k [] ≡ get_or old k []

-- one channel more
pub counted-more : (verdict : ℕ → Verdict) (old now : List (List ℕ)) (n : ℕ) (xs : List ℕ) → n < length now → AreCountedTo verdict old now n → xs ≡ counts_after (verdict n) (get_or old n [])
    → AreCountedTo verdict old (set now n xs) (n + 1)
counted-more verdict old now n xs l so_far is = record {
  done = λ k u. ⊎_elim
      (λ (e : k ≡ n). ap (λ j. get_or (set now n xs) j []) e ∙ get_or-set_same now n xs [] l ∙ is ∙ ap (λ j. counts_after (verdict j) (get_or old j [])) (sym e))
      (λ (d : k ≡ n → ⊥). get_or-set_other now n k xs [] d ∙ so_far.done k (omega arith))
      (cases_eq k n);
  behind = λ k u. get_or-set_other now n k xs [] (λ e. absurd (omega arith)) ∙ so_far.behind k (omega arith);
}

pub counted-all : (verdict : ℕ → Verdict) (old now : List (List ℕ)) → length now ≡ length old → AreCountedTo verdict old now (length old) → now ≡ map_indexed (λ i xs. counts_after (verdict i) xs) old
counted-all verdict old now same all = map_indexed-from_each (λ i xs. counts_after (verdict i) xs) old now [] [] same (λ i l. all.done i l)

-- what is found with a plan has its verdicts
pub found-verdicts : (p : PlanContents) (vcs n : ℕ) (inputs : List Input) (findings : List Finding) → findings ≡ tabulate n (finding_by p vcs inputs) → HaveVerdicts (planned_verdict p) findings
found-verdicts p vcs n inputs findings are i l =
    let many : length findings ≡ n = ap length are ∙ length-tabulate n (finding_by p vcs inputs) in
    ap (λ (xs : List Finding). (finding_at xs i).verdict) are ∙ ap (λ (one : Finding). one.verdict) (get_or-tabulate n i (finding_by p vcs inputs) empty_finding (omega (arith, l, many)))
