-- Where a trace is cut off.
use Rattle.std.proofs.Common.{◌≡◌, ◌∙◌, ℕ, ◌+◌, ◌-◌, ◌<◌, ◌≤◌, List, ◌++◌, ap, ap₂, arith, flat_map, length}
use Rattle.noc_topo.specs.Lists.{below}
use Rattle.noc_theory.specs.Network.{Run}
use Rattle.noc_files.specs.Trace.{IsCutOff, cycle_text, trace_header, trace_text}
use Rattle.noc_files.specs.declared.trace.Traced.{Traced}
use Rattle.noc_files.proofs.BelowLemmas.{longer_here, no_longer_before}
use Rattle.noc_files.proofs.PageLemmas.{added_none}

module _ (u : Run) (traced : Traced) where
  -- the lines of a cycle, and the trace of so many cycles
  abbrev cycle : ℕ → List ℕ
  cycle k = cycle_text u.net traced u.count (u.count + k)

  abbrev text : ℕ → List ℕ
  text n = trace_header ++ flat_map cycle (below n)

  abbrev run_on : ℕ → Run
  run_on n = record u { count = u.count + n }

  text_is : (n : ℕ) → trace_text (run_on n) u.count traced ≡ text n
  text_is n = let span : u.count + n - u.count ≡ n = omega arith in ap text span

  cut_at : (v : Run) (written n : ℕ) → v ≡ run_on n → written < length (text n) → ((k : ℕ) → k < n → length (text k) ≤ written) → IsCutOff u traced written v
  cut_at v written n run longer fewest = record {
    cycles = n;
    run = run;
    longer = omega (arith, longer, ap length (ap (λ w. trace_text w u.count traced) run ∙ text_is n));
    fewest = λ k l. omega (arith, fewest k l, ap length (text_is k));
  }

  -- in the header
  pub cut_in_header : (written : ℕ) → written < length trace_header → IsCutOff u traced written u
  cut_in_header written inside =
      let none : u.count ≡ u.count + 0 = omega arith in
      cut_at u written 0 (ap (λ (n : ℕ). record u { count = n }) none) (omega (arith, inside, ap length (added_none cycle trace_header))) (λ k l. absurd (omega (arith, l)))

  -- in the lines of a cycle
  pub cut_in_cycle : (v : Run) (written before one n : ℕ) → v.net ≡ u.net → v.count ≡ u.count + (n + 1) → before ≡ length (trace_header ++ flat_map cycle (below n)) → one < length (cycle n)
      → written ≡ before + one → IsCutOff u traced written v
  cut_in_cycle v written before one n same count so_far inside parts =
      cut_at v written (n + 1) (ap₂ (λ (net : _) (k : ℕ). record u { net = net; count = k }) same count)
      (omega (arith, parts, longer_here cycle trace_header n before one so_far inside))
      (λ k l. omega (arith, parts, no_longer_before cycle trace_header n before k so_far l))
