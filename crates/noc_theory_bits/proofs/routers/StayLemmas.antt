-- What shows a view shows one with the same queue, or wires with nothing on them.
use Rattle.std.proofs.Common.{◌≡◌, ℕ, ◌-◌, ◌%◌, ◌/◌, ◌<◌, false, List, length, None, ap, sym, ◌∙◌, subst, arith}
use Rattle.std.specs.Prelude.{is_some}
use Rattle.noc_theory_bits.proofs.Common.{is_some_of, length-tabulate, Beat, MembersAreBelow, Site, View, size_of, is_tail, IsGoodSetup, IsSilent, counts_before, view_at, view_in, Setup, size, credit_from, flit_from, flit_on_vc, ShowsSource, Source, Start, ShowsQueue, ShowsNext, due_of, ShowsWires}
use Rattle.noc_theory_bits.proofs.wiring.WireLemmas.{credit-at, flit-at}

pub source-same : (starts : List Start) (s : Source) (v w : View) → w.queue ≡ v.queue → w.sending ≡ v.sending → ShowsSource starts s v → ShowsSource starts s w
source-same starts s v w queue sending x = record {
  few = x.few;
  due = x.due ∙ ap due_of (sym queue);
  queue = subst (ShowsQueue starts s.queue) (sym queue) x.queue;
  next = subst (λ o. ShowsNext s w.queue o) (sym sending) (subst (λ q. ShowsNext s q v.sending) (sym queue) x.next);
}

-- no flit and no credit comes by beats that carry nothing
pub silent-flit : (vcs : ℕ) (row : List Beat) (i : ℕ) → IsSilent row → flit_from vcs 0 row i ≡ None
silent-flit vcs row i silent = flit-at vcs 0 row i (omega arith) ∙ ap (λ (b : Beat). flit_on_vc (i % vcs) b.flit) (silent (i / vcs - 0))

silent-credit : (vcs : ℕ) (row : List Beat) (o : ℕ) → IsSilent row → credit_from vcs 0 row o ≡ false
silent-credit vcs row o silent = credit-at vcs 0 row o (omega arith) ∙ ap (λ (b : Beat). is_some_of b.credit (o % vcs)) (silent (o / vcs - 0))

-- words that show wires with nothing on them
pub wires-same : (v w : View) (flits tails credits : ℕ) (row later : List Beat) → w.site ≡ v.site → IsSilent row → IsSilent later
    → ShowsWires v flits tails credits row → ShowsWires w flits tails credits later
wires-same v w flits tails credits row later site now still x = record {
  comes = λ i l. x.comes i (within i l) ∙ ap is_some (silent-flit v.site.vcs row i now ∙ sym (silent-flit w.site.vcs later i still));
  comes_below = subst (λ (s : Site). MembersAreBelow (size_of s) flits) (sym site) x.comes_below;
  returns = λ o l. x.returns o (within o l) ∙ silent-credit v.site.vcs row o now ∙ sym (silent-credit w.site.vcs later o still);
  returns_below = subst (λ (s : Site). MembersAreBelow (size_of s) credits) (sym site) x.returns_below;
  tail_comes = λ i l. x.tail_comes i (within i l) ∙ ap is_tail (silent-flit v.site.vcs row i now ∙ sym (silent-flit w.site.vcs later i still));
  tail_comes_below = subst (λ (s : Site). MembersAreBelow (size_of s) tails) (sym site) x.tail_comes_below;
}
  where
    within : (i : ℕ) → i < size_of w.site → i < size_of v.site
    within i l = subst (λ (s : Site). i < size_of s) site l

module _ (net : Setup) (setup : IsGoodSetup net) where
  -- it counts each of its channels
  pub counts-many : (n r : ℕ) → length (view_at net n r).counts ≡ size_of (view_at net n r).site
  unfolding view_at view_in
  counts-many n r = length-tabulate (size net) (counts_before net n r)
