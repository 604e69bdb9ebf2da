-- The verdicts of a channel of a router stand in the words of that channel.
use Rattle.std.proofs.Common.{◌≡◌, ℕ, ◌+◌, ◌<◌, ◌∙◌, Bool, ap, sym, refl}
use Rattle.std.specs.Prelude.{◌&&◌}
use Rattle.std.proofs.lemmas.Bool.{lt-ltb}
use Rattle.noc_packet.specs.Set.{has_bit}
use Rattle.noc_view.specs.VerdictSets.{verdict_by}
use Rattle.noc_topo.specs.Lists.{one_if}
use Rattle.noc_sets.specs.Counts.{ByVerdict, verdict_sets, with_verdicts}
use Rattle.noc_columns.specs.Words.{Numbering, set_by, word}
use Rattle.noc_columns.proofs.SetLemmas.{Term, below-members, below-same, by-term, either, leaf, set_value, without, word_value}
use Rattle.noc_columns.proofs.SupplyLemmas.{member-is}
use Rattle.noc_cycles.specs.declared.block.Block.{Block}
use Rattle.noc_cycles.specs.declared.block.Work.{Work}
use Rattle.noc_counts.specs.Counts.{Delays, delays_of}
use Rattle.noc_counts.specs.Told.{told_at, told_by}
use Rattle.noc_counts.proofs.RowLemmas.{nine-same}

-- a member of the set of a router, where each channel has this word
pub member-by : (n : Numbering) (r i : ℕ) (words : ℕ → ℕ) → i < n.size → has_bit (set_by n r words) i ≡ has_bit (words (n.index i)) r
member-by n r i words few =
    below-members n.size (λ k. has_bit (words (n.index k)) r) i ∙ ap (λ b. b && has_bit (words (n.index i)) r) (lt-ltb i n.size few)

module _ (n : Numbering) (r i : ℕ) (few : i < n.size) where
  -- a member of what is made of sets, word by word
  member-term : (t : Term) → has_bit (set_value n r t) i ≡ has_bit (word_value (n.index i) t) r
  member-term t = ap (λ s. has_bit s i) (sym (by-term n r t)) ∙ member-by n r i (λ j. word_value j t) few

  module _ (b : Block) (w : Work) where
    flit-word : has_bit (told_at n b w r).no_flit i ≡ has_bit (told_by (word (n.index i)) b w).no_flit r
    flit-word =
        let v = w.verdicts in
        member-term (without (leaf v.active) (either (leaf v.no_credit) (leaf w.standing.ready)))

    idle-word : has_bit (told_at n b w r).no_idle_channel i ≡ has_bit (told_by (word (n.index i)) b w).no_idle_channel r
    idle-word = member-term (without (leaf b.inputs.waiting) (either (leaf w.standing.heads) (leaf w.lost)))

    input-word : has_bit (told_at n b w r).lost_input i ≡ has_bit (told_by (word (n.index i)) b w).lost_input r
    input-word = member-term (without (leaf w.standing.ready) (leaf w.decided.picked))

    switch-word : has_bit (told_at n b w r).lost_switch i ≡ has_bit (told_by (word (n.index i)) b w).lost_switch r
    switch-word = member-term (without (leaf w.decided.picked) (leaf w.verdicts.moved))

    pub verdict-word : verdict_by (verdict_sets (told_at n b w r)) i ≡ verdict_by (verdict_sets (told_by (word (n.index i)) b w)) r
    verdict-word =
        let v = w.verdicts in
        rw (member-is n r i v.moved few, member-is n r i b.grants.granted few, member-is n r i w.standing.heads few, flit-word, idle-word, member-is n r i w.lost few, member-is n r i v.no_credit few, input-word, switch-word) refl

    pub counts-word : (c : ByVerdict) → with_verdicts (told_by (word (n.index i)) b w) r c ≡ with_verdicts (told_at n b w r) i c
    counts-word c =
        let v = w.verdicts in
        let one = λ (old : ℕ) (x : Bool). old + one_if x in
        nine-same (sym (ap (one c.routed) (member-is n r i w.standing.heads few))) (sym (ap (one c.granted) (member-is n r i b.grants.granted few)))
        (sym (ap (one c.moved) (member-is n r i v.moved few))) (sym (ap (one c.no_flit) flit-word)) (sym (ap (one c.no_idle_channel) idle-word))
        (sym (ap (one c.lost_channel) (member-is n r i w.lost few))) (sym (ap (one c.no_credit) (member-is n r i v.no_credit few)))
        (sym (ap (one c.lost_input) input-word)) (sym (ap (one c.lost_switch) switch-word))

-- the sets of a router that wait, where the words of its channels are told, but for Granted
module _ (n : Numbering) (r : ℕ) (b : Block) (w : Work) (words : ℕ → ByVerdict) (is : (c : ℕ) → c < n.size → words (n.index c) ≡ record (told_by (word (n.index c)) b w) { granted = 0 }) where
  set-term : (of : ByVerdict → ℕ) (t : Term) → ((i : ℕ) → of (record (told_by (word i) b w) { granted = 0 }) ≡ word_value i t) → set_by n r (λ j. of (words j)) ≡ set_value n r t
  set-term of t same = below-same n.size _ _ (λ c l. ap (λ v. has_bit v r) (ap of (is c l) ∙ same (n.index c))) ∙ by-term n r t

  pub told-delays : ◌≡◌ {A = Delays}
      (record {
        no_flit = set_by n r (λ j. (words j).no_flit);
        no_idle_channel = set_by n r (λ j. (words j).no_idle_channel);
        no_credit = set_by n r (λ j. (words j).no_credit);
      })
      (delays_of (told_at n b w r))
  told-delays =
      let v = w.verdicts in
      let flit = set-term (λ x. x.no_flit) (without (leaf v.active) (either (leaf v.no_credit) (leaf w.standing.ready))) (λ i. refl) in
      let idle = set-term (λ x. x.no_idle_channel) (without (leaf b.inputs.waiting) (either (leaf w.standing.heads) (leaf w.lost))) (λ i. refl) in
      let credit = set-term (λ x. x.no_credit) (leaf v.no_credit) (λ i. refl) in
      λ x. record { no_flit = flit x; no_idle_channel = idle x; no_credit = credit x }
