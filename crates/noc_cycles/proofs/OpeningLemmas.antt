-- Blocks in which nothing is.
use Rattle.std.proofs.Common.{◌≡◌, ℕ, ◌+◌, ◌-◌, ◌*◌, ◌/◌, ◌%◌, ◌^◌, ◌<◌, ◌≤◌, ◌≢◌, true, false, List, [], ◌∷◌, ◌++◌, ◌∙◌, arith, ap, ap₂, sym, subst, inl, inr, length, length-append, replicate, slice_index, slice_index_or}
use Rattle.std.specs.Prelude.{◌⊎◌, not, nat_eq, nat_lt, slice_set}
use Rattle.std.proofs.lemmas.List.{get_or-replicate, get_or-set_other, get_or-set_same, get_or_append_left}
use Rattle.std.proofs.lemmas.Nat.{shl_whole}
use Rattle.std.proofs.Math.Nat.{mul-le-mul}
use Rattle.std.proofs.Math.Seq.{get_or-append_seam}
use Rattle.noc_sets.proofs.MemberLemmas.{and-true, ones-members}
use Rattle.noc_columns.specs.Channels.{inputs_by, outputs_by}
use Rattle.noc_columns.specs.Picks.{output_of}
use Rattle.noc_columns.specs.Wants.{asks_of}
use Rattle.noc_columns.specs.Words.{IsWithin}
use Rattle.noc_columns.proofs.ChannelLemmas.{positive}
use Rattle.noc_columns.proofs.PortLemmas.{local-place}
use Rattle.noc_columns.proofs.SetLemmas.{below-same, by-term, none}
use Rattle.noc_cycles.proofs.Common.{cases_eq, cases_lt, le-ltb, lt-ltb, length-set, has_bit, has_bit-zero, same-word, channels_of, links_of, port_at, planes_by, source_in, Numbering, all_of, set_alike, set_below, set_of, word, Inputs, Links, Outputs, Planes, RouterPorts, part, port-below, apart, link-index, below-members, held_at, links_at, Block, Pattern}
use Rattle.noc_cycles.specs.Opened.{AreEmptyWorks, AreOpened, HoldsNothing, IsOpened, free_outputs, no_inputs, no_links}
use Rattle.noc_cycles.specs.declared.block.Work.{Work}
use Rattle.noc_cycles.specs.declared.first.First.{First}

-- where nothing waits, no output channel is wanted
pub nobody-asks : (r wanted idle : ℕ) → r < 64 → has_bit 0 r ≡ not (nat_eq (asks_of (slice_index (replicate 64 0) r) wanted idle) 0)
nobody-asks r wanted idle few = has_bit-zero r ∙ sym (ap (λ n. not (nat_eq (asks_of n wanted idle) 0)) (get_or-replicate 64 r 0 0 few))

-- nothing is a word
pub nothing-fits : (r : ℕ) → r < 64 → slice_index (replicate 64 0) r < 2 ^ 64
nothing-fits r few = subst (λ w. w < 2 ^ 64) (sym (get_or-replicate 64 r 0 0 few)) (omega arith)

-- no channel is granted anything
pub nobody-granted : (r k : ℕ) → k < 64 → has_bit (slice_index (replicate 72 0) k) r ≡ false
nobody-granted r k l = ap (λ w. has_bit w r) (get_or-replicate 72 k 0 0 (omega (arith, l))) ∙ has_bit-zero r

-- so many bits, as a shift makes them
pub low-bits : (n : ℕ) → n < 64 → 1 * 2 ^ n % 2 ^ 64 - 1 ≡ 2 ^ n - 1
low-bits n few = ap (λ m. m - 1) (shl_whole 1 1 n 64 (omega arith) (omega (arith, few)) ∙ (let e : 1 * 2 ^ n ≡ 2 ^ n = omega arith in e))

-- ---- sets of a router, where all words are one
pub alike-set : (n : Numbering) (r x : ℕ) → IsWithin 72 n → set_of n r (replicate 72 x) ≡ set_alike n r x
alike-set n r x within = below-same n.size _ _ (λ c l. ap (λ w. has_bit w r) (get_or-replicate 72 (n.index c) x 0 (within c l)))

pub none-alike : (n : Numbering) (r : ℕ) → set_alike n r 0 ≡ 0
none-alike n r = by-term n r none

pub all-alike : (n : Numbering) (r : ℕ) → r < 64 → set_alike n r (2 ^ 64 - 1) ≡ all_of n
all-alike n r few = below-same n.size _ _ (λ c l. ones-members 64 r ∙ lt-ltb r 64 few)

-- the words of its channels
abbrev the_inputs : ℕ → ℕ → ℕ → ℕ → ℕ → Inputs ℕ
the_inputs waiting active ended ahead len = record {
  waiting = waiting;
  active = active;
  ended = ended;
  ahead = ahead;
  len = record { ones = len; twos = len; fours = len; eights = len; sixteens = len };
}

abbrev the_links : ℕ → ℕ → ℕ → Links ℕ
the_links flits tails credits = record { flits = flits; tails = tails; credits = credits }

inputs-same : {w a e h l ahead : ℕ} → w ≡ 0 → a ≡ 0 → e ≡ 0 → h ≡ ahead → l ≡ 0 → the_inputs w a e h l ≡ no_inputs ahead
inputs-same w a e h l = λ i. the_inputs (w i) (a i) (e i) (h i) (l i)

abbrev the_outputs : ℕ → Planes ℕ → Outputs ℕ
the_outputs draining credit = record { draining = draining; credit = credit }

outputs-same : {f : ℕ → ℕ} {g : ℕ → ℕ} {d : ℕ} → d ≡ 0 → ((x : ℕ) → f x ≡ g x) → (places : Planes ℕ) → the_outputs d (planes_by f places) ≡ free_outputs (planes_by g places)
outputs-same d same places = λ i. the_outputs (d i) (planes_by (λ x. same x i) places)

-- all channels below one
all-is : (n : ℕ) → 2 ^ n - 1 ≡ set_below n (λ c. true)
all-is n = same-word _ _ (λ k. ones-members n k ∙ sym (below-members n (λ c. true) k ∙ and-true (nat_lt k n)))

-- ---- where the words of a router stand
module _ (ports : RouterPorts) where
  links-within : IsWithin 72 (links_of ports.links)
  links-within c l =
      let some : 0 < ports.links.vcs = positive ports.links.vcs ports.links.width c l in
      let p = port-below ports.links.width ports.links.vcs some c l in
      let v = part ports.links.width ports.links.vcs some c in
      let far = apart (c % ports.links.vcs) ports.links.vcs ports.links.width (c / ports.links.vcs) v p in
      let fit = ports.links.fit in
      omega (arith, far, fit)

  channels-within : IsWithin 72 (channels_of ports)
  channels-within c l = at (cases_lt (c / ports.links.vcs) ports.links.width)
    where
      some : 0 < ports.links.vcs
      some = positive ports.links.vcs (ports.links.width + 1) c l

      v : c % ports.links.vcs < ports.links.vcs
      v = part (ports.links.width + 1) ports.links.vcs some c

      at : (c / ports.links.vcs < ports.links.width) ⊎ (ports.links.width ≤ c / ports.links.vcs) → (channels_of ports).index c < 72
      at (inl p) =
          let far = apart (c % ports.links.vcs) ports.links.vcs ports.links.width (c / ports.links.vcs) v p in
          let fit = ports.links.fit in
          let is = link-index ports (c / ports.links.vcs) (c % ports.links.vcs) p in
          omega (arith, far, fit, is)
      at (inr p) =
          let fit = ports.local.fit in
          let same : ports.local.vcs * ports.local.width ≡ ports.links.vcs * 1 = ap₂ (λ a b. a * b) ports.alike ports.one in
          let is = local-place ports (c / ports.links.vcs) (c % ports.links.vcs) p ports.one in
          omega (arith, v, fit, same, is)

  local-within : IsWithin 72 (port_at ports.local 0)
  local-within v l =
      let fit = ports.local.fit in
      let same : ports.local.vcs * ports.local.width ≡ ports.local.vcs * 1 = ap (λ w. ports.local.vcs * w) ports.one in
      let here : v * ports.local.width ≡ v * 1 = ap (λ w. v * w) ports.one in
      omega (arith, l, fit, same, here)

  output-within : (q : ℕ) → q < ports.links.width + 1 → IsWithin 72 (output_of ports q)
  output-within q l p m = at (cases_lt q ports.links.width)
    where
      room : (ports.links.width + 1) * ports.links.width ≤ 8 * 7
      room =
          let r = ports.room in
          let more : ports.links.width + 1 ≤ 8 = omega (arith, r) in
          let most : ports.links.width ≤ 7 = omega (arith, r) in
          mul-le-mul more most

      at : (q < ports.links.width) ⊎ (ports.links.width ≤ q) → (output_of ports q).index p < 72
      at (inl u) =
          let far = apart p (ports.links.width + 1) ports.links.width q m u in
          rw (lt-ltb q ports.links.width u) (omega (arith, far, room))
      at (inr u) =
          let r = ports.room in
          rw (le-ltb q ports.links.width u) (omega (arith, m, room, r))

-- ---- an opened block
module _ (pattern : Pattern) (one : First) (r : ℕ) (few : r < 64) (b : Block) where
  sets : (n : Numbering) (x : ℕ) → IsWithin 72 n → set_of n r (replicate 72 x) ≡ set_alike n r x
  sets n x within = alike-set n r x within

  nothing : (n : Numbering) → IsWithin 72 n → set_of n r (replicate 72 0) ≡ 0
  nothing n within = alike-set n r 0 within ∙ none-alike n r

  whole : (n : Numbering) → IsWithin 72 n → set_of n r (replicate 72 (2 ^ 64 - 1)) ≡ all_of n
  whole n within = alike-set n r (2 ^ 64 - 1) within ∙ all-alike n r few

  pub holds-nothing : b.inputs ≡ inputs_by (replicate 72) (no_inputs (2 ^ 64 - 1))
      → b.outputs ≡ outputs_by (replicate 72) (free_outputs pattern.frame.places)
      → b.switch.ahead ≡ replicate 72 (2 ^ 64 - 1)
      → b.injection.injecting ≡ replicate 72 0
      → word r b.marks.waiting ≡ 0
      → word r b.marks.wanted ≡ 0
      → word r b.marks.idle ≡ 2 ^ ((pattern.table.ports.links.width + 1) * pattern.table.ports.links.vcs) - 1
      → ((o : ℕ) → o < 64 → word o (slice_index_or b.marks.turns r []) ≡ 2 ^ 64 - 1)
      → source_in b.sources r ≡ record { due = one.due; left = 0; queue = one.place }
      → HoldsNothing pattern one r (held_at pattern.table.ports b r)
  holds-nothing inputs outputs ahead injecting waiting wanted idle turns source =
      let ports = pattern.table.ports in
      let n = channels_of ports in
      let z = nothing n (channels-within ports) in
      let free = sets (links_of ports.links) in
      record {
        inputs = ap (inputs_by (set_of n r)) inputs
            ∙ inputs-same z z z (whole n (channels-within ports)) z;
        outputs = ap (outputs_by (set_of (links_of ports.links) r)) outputs
            ∙ outputs-same (nothing (links_of ports.links) (links-within ports)) (λ x. sets (links_of ports.links) x (links-within ports)) pattern.frame.places;
        waiting = waiting;
        wanted = wanted;
        idle = idle ∙ all-is ((ports.links.width + 1) * ports.links.vcs);
        turn = turns;
        pointers = λ q l. ap (set_of (output_of ports q) r) ahead ∙ whole (output_of ports q) (output-within ports q l);
        injecting = ap (set_of (port_at ports.local 0) r) injecting ∙ nothing (port_at ports.local 0) (local-within ports);
        source = source;
      }

-- one block more
pub opened-next : (pattern : Pattern) (firsts : List First) (n : ℕ) (blocks items : List Block) (nothing block : Block) → items ≡ blocks ++ nothing ∷ []
    → AreOpened pattern firsts n blocks → IsOpened pattern firsts n block → AreOpened pattern firsts (n + 1) (slice_set items n block)
opened-next pattern firsts n blocks items nothing block e are is = record {
  many = length-set items n block ∙ size;
  each = λ b d l. at b d l (cases_eq b n);
}
  where
    size : length items ≡ n + 1
    size = ap length e ∙ length-append blocks (nothing ∷ []) ∙ (let m = are.many in omega (arith, m))

    at : (b : ℕ) (d : Block) → b < n + 1 → (b ≡ n) ⊎ (b ≢ n) → IsOpened pattern firsts b (slice_index_or (slice_set items n block) b d)
    at b d l (inl same) =
        subst (λ k. IsOpened pattern firsts k (slice_index_or (slice_set items n block) k d)) (sym same)
        (subst (IsOpened pattern firsts n) (sym (get_or-set_same items n block d (omega (arith, size)))) is)
    at b d l (inr other) =
        let before : b < n = omega (arith, l, other) in
        subst (IsOpened pattern firsts b)
        (sym (get_or-set_other items n b block d other ∙ ap (λ xs. slice_index_or xs b d) e ∙ get_or_append_left blocks (nothing ∷ []) d b (let m = are.many in omega (arith, before, m))))
        (are.each b d before)

-- ---- what blocks work out
pub nothing-comes : (came : Links (List ℕ)) (ports : RouterPorts) (r : ℕ) → came.flits ≡ replicate 72 0 → came.tails ≡ replicate 72 0 → came.credits ≡ replicate 72 0
    → links_at ports came r ≡ no_links
nothing-comes came ports r flits tails credits = λ i. the_links (none flits i) (none tails i) (none credits i)
  where
    none : {words : List ℕ} → words ≡ replicate 72 0 → set_of (links_of ports.links) r words ≡ 0
    none e = ap (set_of (links_of ports.links) r) e ∙ alike-set (links_of ports.links) r 0 (links-within ports) ∙ none-alike (links_of ports.links) r

-- that of one block more
pub works-next : (n : ℕ) (works items : List Work) (work : Work) → items ≡ works ++ work ∷ [] → AreEmptyWorks n works
    → work.came.flits ≡ replicate 72 0 → work.came.tails ≡ replicate 72 0 → work.came.credits ≡ replicate 72 0 → AreEmptyWorks (n + 1) items
works-next n works items work e are flits tails credits = record {
  many = ap length e ∙ length-append works (work ∷ []) ∙ (let m = are.many in omega (arith, m));
  each = λ b d l ports r. ap (λ xs. links_at ports (slice_index_or xs b d).came r) e ∙ at b d l ports r (cases_eq b n);
}
  where
    at : (b : ℕ) (d : Work) → b < n + 1 → (ports : RouterPorts) (r : ℕ) → (b ≡ n) ⊎ (b ≢ n) → links_at ports (slice_index_or (works ++ work ∷ []) b d).came r ≡ no_links
    at b d l ports r (inl same) =
        ap (λ (w : Work). links_at ports w.came r) (ap (λ k. slice_index_or (works ++ work ∷ []) k d) (same ∙ sym are.many) ∙ get_or-append_seam works work [] d)
        ∙ nothing-comes work.came ports r flits tails credits
    at b d l ports r (inr other) =
        let before : b < n = omega (arith, l, other) in
        ap (λ (w : Work). links_at ports w.came r) (get_or_append_left works (work ∷ []) d b (let m = are.many in omega (arith, before, m)))
        ∙ are.each b d before ports r
