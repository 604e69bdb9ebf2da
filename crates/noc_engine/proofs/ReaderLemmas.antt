-- What is read of a network is what it shows.
use Rattle.std.proofs.Common.{◌≡◌, ◌≢◌, ℕ, suc, zero, [], ◌+◌, ◌-◌, ◌*◌, ◌/◌, ◌%◌, ◌<◌, ◌≤◌, Bool, List, drop, length, take, Option, None, Some, get_or, refl, ap, ap₂, sym, ◌∙◌, subst, arith}
use Rattle.std.specs.Prelude.{slice_get, slice_index, slice_index_or, if◌then◌else◌}
use Rattle.std.proofs.lemmas.Bool.{eq-eqb, ne_eqb}
use Rattle.std.proofs.lemmas.List.{ext_get_or, get_or-drop, get_or-take, length-drop, length-take-le}
use Rattle.std.proofs.lemmas.Nat.{mod_below}
use Rattle.std.proofs.lemmas.Option.{slice_get-get_or}
use Rattle.noc_topo.specs.Lists.{one_if}
use Rattle.noc_topo.specs.Shape.{nodes, ports}
use Rattle.noc_topo.proofs.ListLemmas.{length-tabulate}
use Rattle.noc_packet.specs.Set.{has_bit}
use Rattle.noc_route.proofs.EntryLemmas.{flat-below}
use Rattle.noc_view.specs.Found.{empty_finding, finding_at}
use Rattle.noc_view.specs.declared.finding.Finding.{Finding}
use Rattle.noc_sets.specs.Column.{Column}
use Rattle.noc_sets.specs.Counts.{ByVerdict, ShowsLastEvent, ten_counts}
use Rattle.noc_sets.specs.Cycle.{Router}
use Rattle.noc_columns.specs.Picks.{channels_of}
use Rattle.noc_columns.specs.Words.{set_of}
use Rattle.noc_columns.specs.declared.due.TheConstants.{NEVER}
use Rattle.noc_counts.specs.Counts.{HasHad}
use Rattle.noc_counts.specs.declared.counts.Counts.{Counts}
use Rattle.noc_cycles.specs.declared.block.Block.{Block}
use Rattle.noc_theory.specs.Lockstep.{counts_before, findings_before}
use Rattle.noc_theory.specs.Network.{Setup, arrival_in, size, state_at}
use Rattle.noc_theory.specs.Progress.{last_event_before}
use Rattle.noc_theory_bits.proofs.bits.NetworkLemmas.{counts-read}
use Rattle.noc_engine.specs.Runs.{AreFindings}
use Rattle.noc_engine.specs.Shows.{ShowsAt, arrival_by, words_in}
use Rattle.noc_engine.specs.declared.columns.Columns.{Columns}
use Rattle.noc_engine.proofs.ListLemmas.{there}
use Rattle.noc_engine.proofs.WholeLemmas.{in-block, network-shown, plan-fits}

-- ---- a part of a list
part : (xs ys : List Finding) (first many : ℕ) → length ys ≡ many → first + many ≤ length xs
    → ((i : ℕ) → i < many → finding_at xs (first + i) ≡ slice_index_or ys i empty_finding) → take (first + many - first) (drop first xs) ≡ ys
part xs ys first many long within each = ap (λ n. take n (drop first xs)) rest ∙ ext_get_or empty_finding (take many (drop first xs)) ys (taken ∙ sym long) same
  where
    rest : first + many - first ≡ many
    rest = omega arith

    taken : length (take many (drop first xs)) ≡ many
    taken = length-take-le many (drop first xs) (omega (arith, length-drop first xs, within))

    same : (i : ℕ) → i < length (take many (drop first xs)) → get_or (take many (drop first xs)) i empty_finding ≡ get_or ys i empty_finding
    same i l = let low : i < many = omega (arith, l, taken) in get_or-take many (drop first xs) i empty_finding low ∙ get_or-drop first xs i empty_finding ∙ each i low

-- ---- an event, or none
pub no-event : (word : ℕ) (o : Option ℕ) → word ≡ 0 → ShowsLastEvent word o → None ≡ o
no-event word None none is = refl
no-event word (Some m) none is = absurd (omega (arith, none, is))

pub an-event : (word m : ℕ) (o : Option ℕ) → word ≢ 0 → m ≡ word - 1 → ShowsLastEvent word o → Some m ≡ o
an-event word m None some before is = absurd (some is)
an-event word m (Some k) some before is = let e : m ≡ k = omega (arith, is, before) in ap Some e

-- ---- an arrival, or none
pub no-arrival : (word item : ℕ) (o : Option ℕ) → word ≡ NEVER → word ≡ item → arrival_by item ≡ o → None ≡ o
no-arrival word item o never same is = sym (ap (λ (b : Bool). if b then None else Some item) (eq-eqb item NEVER (sym same ∙ never))) ∙ is

pub an-arrival : (word cycle item : ℕ) (o : Option ℕ) → word ≢ NEVER → cycle ≡ word → word ≡ item → arrival_by item ≡ o → Some cycle ≡ o
an-arrival word cycle item o other made same is = ap Some (made ∙ same) ∙ sym (ap (λ (b : Bool). if b then None else Some item) (ne_eqb item NEVER (λ e. other (same ∙ e)))) ∙ is

found-size : (net : Setup) (n r : ℕ) → 0 < n → length (findings_before net n r) ≡ size net
found-size net zero r some = absurd (omega (arith, some))
found-size net (suc n) r some = length-tabulate (size net) _

-- ---- of a network
module _ (net : Setup) (n : ℕ) (words : ℕ → Router) (all : Columns) (shows : ShowsAt net n words all) where
  -- how many channels a router has
  pub sizes : size net ≡ (all.plan.pattern.table.ports.links.width + 1) * all.plan.pattern.table.ports.links.vcs
  sizes = ap₂ (λ p v. p * v) (plan-fits net all.plan shows.good shows.tile.plan_is).ports.count (plan-fits net all.plan shows.good shows.tile.plan_is).ports.vcs

  -- what was counted of it is what its word has
  counted-word : (r i : ℕ) (c : Counts) → r < nodes net.relation.grid → i < size net → slice_get all.tile.counts.items (r / 64) ≡ Some c
      → HasHad (channels_of all.plan.pattern.table.ports) c (r % 64) i (one_if (has_bit (words r).column.waiting i)) ((words r).counts i)
  counted-word r i c l u at =
      let low = in-block net n words all shows r l in
      let block = there all.tile.blocks.items (r / 64) low in
      let work = there all.tile.works.items (r / 64) (let long = shows.tile.lists.works_are in omega (arith, low, long)) in
      let whole : 64 * (all.tile.first + r / 64) + r % 64 ≡ r = let first = shows.first in omega (arith, first) in
      subst (λ s. HasHad (channels_of all.plan.pattern.table.ports) c (r % 64) i (one_if (has_bit (words s).column.waiting i)) ((words s).counts i)) whole
      ((shows.tile.blocks (r / 64) block.0 work.0 c block.1 work.1 at).counted (r % 64) i (mod_below r 64 (omega arith)) (subst (λ m. i < m) sizes u))

  -- the channels that wait are those of the words of its block
  waiting-word : (r : ℕ) (block : Block) → r < nodes net.relation.grid → slice_get all.tile.blocks.items (r / 64) ≡ Some block
      → (words r).column.waiting ≡ set_of (channels_of all.plan.pattern.table.ports) (r % 64) block.inputs.waiting
  waiting-word r block l at =
      let low = in-block net n words all shows r l in
      let work = there all.tile.works.items (r / 64) (let long = shows.tile.lists.works_are in omega (arith, low, long)) in
      let counts = there all.tile.counts.items (r / 64) (let long = shows.tile.lists.counts_are in omega (arith, low, long)) in
      let whole : 64 * (all.tile.first + r / 64) + r % 64 ≡ r = let first = shows.first in omega (arith, first) in
      let held = ((shows.tile.blocks (r / 64) block work.0 counts.0 at work.1 counts.1).routers (r % 64) (mod_below r 64 (omega arith))).held in
      ap (λ s. (words s).column.waiting) (sym whole) ∙ ap (λ (c : Column). c.waiting) held.column

  -- the place of what was counted of a channel
  pub counts-fit : (r port vc : ℕ) → r < nodes net.relation.grid → port < ports net.relation.grid → vc < net.relation.vcs
      → (port * all.plan.pattern.table.ports.links.vcs + vc < (all.plan.pattern.table.ports.links.width + 1) * all.plan.pattern.table.ports.links.vcs)
      × ((all.plan.pattern.table.ports.links.width + 1) * all.plan.pattern.table.ports.links.vcs ≤ 64) × (r / 64 < length all.tile.counts.items) × (r / 64 < length all.tile.blocks.items)
  counts-fit r port vc l u v =
      let links = all.plan.pattern.table.ports.links in
      let few : port * net.relation.vcs + vc < size net = flat-below port (ports net.relation.grid) vc net.relation.vcs u v in
      let all_few = all.plan.pattern.all in
      let frame = all.plan.pattern.frame.few in
      let same : (links.width + 1) * links.vcs ≡ links.vcs * links.width + links.vcs = omega arith in
      let low = in-block net n words all shows r l in
      let long = shows.tile.lists.counts_are in (
        subst (λ k. port * k + vc < (links.width + 1) * links.vcs) (plan-fits net all.plan shows.good shows.tile.plan_is).ports.vcs (subst (λ m. port * net.relation.vcs + vc < m) sizes few),
        omega (arith, all_few, frame, same),
        omega (arith, low, long),
        low,
      )

  pub counts-are : (r port vc : ℕ) (c : Counts) (block : Block) (counts : List ℕ) → r < nodes net.relation.grid → port < ports net.relation.grid → vc < net.relation.vcs
      → c ≡ get_or all.tile.counts.items (r / 64) c → block ≡ get_or all.tile.blocks.items (r / 64) block
      → ((had : ByVerdict)
      → HasHad (channels_of all.plan.pattern.table.ports) c (r % 64) (port * all.plan.pattern.table.ports.links.vcs + vc)
      (one_if (has_bit (set_of (channels_of all.plan.pattern.table.ports) (r % 64) block.inputs.waiting) (port * all.plan.pattern.table.ports.links.vcs + vc))) had
      → counts ≡ ten_counts all.tile.cycle had)
      → counts ≡ counts_before net n r (port * net.relation.vcs + vc)
  counts-are r port vc c block counts l u v c_is block_is is =
      let i = port * net.relation.vcs + vc in
      let few : i < size net = flat-below port (ports net.relation.grid) vc net.relation.vcs u v in
      let at : slice_get all.tile.counts.items (r / 64) ≡ Some c =
      slice_get-get_or all.tile.counts.items (r / 64) c (let low = in-block net n words all shows r l in let long = shows.tile.lists.counts_are in omega (arith, low, long)) ∙ ap Some (sym c_is) in
      let here : slice_get all.tile.blocks.items (r / 64) ≡ Some block =
      slice_get-get_or all.tile.blocks.items (r / 64) block (in-block net n words all shows r l) ∙ ap Some (sym block_is) in
      let all_of = channels_of all.plan.pattern.table.ports in
      is ((words r).counts i)
      (subst (λ k. HasHad all_of c (r % 64) (port * k + vc) (one_if (has_bit (set_of all_of (r % 64) block.inputs.waiting) (port * k + vc))) ((words r).counts i)) (plan-fits net all.plan shows.good shows.tile.plan_is).ports.vcs
      (subst (λ w. HasHad all_of c (r % 64) i (one_if (has_bit w i)) ((words r).counts i)) (waiting-word r block l here) (counted-word r i c l few at)))
      ∙ ap (λ m. ten_counts m ((words r).counts i)) shows.tile.cycle
      ∙ counts-read net n (words_in words all.tile) (network-shown net n words all shows) r i l few

  -- when a packet arrived
  pub arrival-read : (p : ℕ) → p < length net.packets → arrival_by (slice_index all.tile.arrivals.items p) ≡ arrival_in net (state_at net n) p
  arrival-read p l = (network-shown net n words all shows).arrivals p l

  -- the cycle after that of the last event
  pub last-read : ShowsLastEvent all.tile.last (last_event_before net n)
  last-read = (network-shown net n words all shows).last

  -- the places of what it has found
  pub found-fits : (r : ℕ) → r < nodes net.relation.grid
      → ((all.plan.pattern.table.ports.links.width + 1) * all.plan.pattern.table.ports.links.vcs ≤ 64) × (r * 64 + (all.plan.pattern.table.ports.links.width + 1) * all.plan.pattern.table.ports.links.vcs ≤ length all.found.items)
  found-fits r l =
      let links = all.plan.pattern.table.ports.links in
      let all_few = all.plan.pattern.all in
      let few = all.plan.pattern.frame.few in
      let same : (links.width + 1) * links.vcs ≡ links.vcs * links.width + links.vcs = omega arith in
      let long = shows.found_are in
      (omega (arith, all_few, few, same), omega (arith, all_few, few, same, long, l))

  -- what it has found: nothing before the first cycle
  pub found-none : (r : ℕ) → all.tile.cycle ≡ 0 → [] ≡ findings_before net n r
  found-none r none = ap (λ m. findings_before net m r) (sym none ∙ shows.tile.cycle)

  pub found-read : (r : ℕ) (found : List Finding) → AreFindings net all → r < nodes net.relation.grid → all.tile.cycle ≢ 0 → found ≡ all.found.items
      → take (r * 64 + (all.plan.pattern.table.ports.links.width + 1) * all.plan.pattern.table.ports.links.vcs - r * 64) (drop (r * 64) found) ≡ findings_before net n r
  found-read r found findings l some is =
      ap₂ (λ m (xs : List Finding). take (r * 64 + m - r * 64) (drop (r * 64) xs)) (sym sizes) is
      ∙ part all.found.items (findings_before net n r) (r * 64) (size net) (found-size net n r (omega (arith, ran, some))) (subst (λ m. r * 64 + m ≤ length all.found.items) (sym sizes) (found-fits r l).1)
      (λ i u. subst (λ m. finding_at all.found.items (r * 64 + i) ≡ slice_index_or (findings_before net m r) i empty_finding) ran (findings.each r i l u (omega (arith, some))))
    where
      ran : all.tile.cycle ≡ n
      ran = shows.tile.cycle
