-- Output channels are granted and heads are routed in one router of a block.
use Rattle.std.proofs.Common.{◌≡◌, ◌≢◌, ◌⊎◌, ℕ, ◌+◌, ◌*◌, ◌/◌, ◌^◌, ◌<◌, ap, sym, ◌∙◌, subst, inl, inr, bit_or}
use Rattle.std.specs.Prelude.{◌&&◌, not}
use Rattle.noc_sets.specs.Grants.{Allocation}
use Rattle.noc_sets.specs.Passes.{lane_heads}
use Rattle.noc_sets.specs.Routed.{HasChosen, HasRouted}
use Rattle.noc_columns.specs.Allotted.{Allotment, HasAllotted, allotted_after, allotted_before, allotted_marks, routed_after}
use Rattle.noc_columns.specs.Wants.{asks_of}
use Rattle.noc_columns.proofs.AllocatedLemmas.{granted-is, shows-owned}
use Rattle.noc_columns.proofs.ChosenLemmas.{is-chosen, not-allotted}
use Rattle.noc_sets.proofs.MemberLemmas.{and-true}
use Rattle.noc_cycles.proofs.Common.{cases_eq, has_bit, has_bit-zero, RouterMarks, Still, less, less_members, or-zero, same-word, ShowsOwned, Standing, Held, ShowsStill, Pattern}
use Rattle.noc_cycles.specs.Deciding.{undecided}
use Rattle.noc_cycles.specs.May.{MayDecide}

less-zero : (a : ℕ) → less a 0 ≡ a
less-zero a = same-word _ a (λ k. less_members a 0 k ∙ ap (λ b. has_bit a k && not b) (has_bit-zero k) ∙ and-true (has_bit a k))

-- what allocation finds of a router that holds this, of which these are granted and have lost
abbrev pub allotment_by : Held → ℕ → ℕ → Allotment
allotment_by a granted lost = record {
  waiting = a.waiting;
  idle = a.idle;
  wanted = a.wanted;
  set = a.set;
  turn = a.turn;
  granted = granted;
  lost = lost;
  out_port = a.out_port;
  out_vc = a.out_vc;
}

-- who owns a channel does not depend on the sets and pointers of marks
owned-as : (ports vcs active : ℕ) (port vc : ℕ → ℕ) (m : RouterMarks) (set turn : ℕ → ℕ) → ShowsOwned ports vcs active port vc m → ShowsOwned ports vcs active port vc (record m { set = set; turn = turn })
owned-as ports vcs active port vc m set turn o = record {
  sends = record { port = o.sends.port; vc = o.sends.vc; taken = o.sends.taken; to_port = o.sends.to_port };
  only = o.only;
  owner = o.owner;
}

module _ (pattern : Pattern) (s : Still) (a : Held) (standing : Standing ℕ) (no_credit : ℕ) (shows : ShowsStill pattern a standing no_credit s)
    (granted lost : ℕ) (clear : granted ≡ 0) (unlost : lost ≡ 0) (b : Allotment)
    (asked : asks_of a.waiting a.wanted a.idle ≢ 0 → HasAllotted pattern.table.ports.links.vcs (allotment_by a granted lost) b)
    (unasked : asks_of a.waiting a.wanted a.idle ≡ 0 → b ≡ allotment_by a granted lost)
  where
    abbrev ports : ℕ
    ports = pattern.table.ports.links.width + 1

    abbrev vcs : ℕ
    vcs = pattern.table.ports.links.vcs

    abbrev size : ℕ
    size = ports * vcs

    abbrev was : Allotment
    was = allotment_by a granted lost

    abbrev pub allotted : Allocation
    allotted = allotted_after size vcs was b s.column s.marks

    waiting-is : s.column.waiting ≡ a.waiting
    waiting-is = (λ x. (shows.column x).waiting) ∙ sym shows.waiting

    before-is : allotted_before was s.column s.marks ≡ undecided s
    before-is =
        let idle : s.column.idle ≡ a.idle = λ x. (shows.column x).idle in
        let wanted : s.column.wanted ≡ a.wanted = λ x. (shows.column x).wanted in
        λ x. record {
          column = record s.column { waiting = sym waiting-is x; idle = sym idle x; wanted = sym wanted x };
          marks = record s.marks { set = sym shows.marks.set x; turn = sym shows.marks.turn x };
          granted = 0;
          lost = 0;
        }

    module _ (headers nodes node : ℕ) (may : MayDecide pattern headers nodes node a standing) where
      -- ---- who waits then
      pub waits-then : b.waiting ≡ less a.waiting b.granted
      waits-then = at (cases_eq (asks_of a.waiting a.wanted a.idle) 0)
        where
          at : (asks_of a.waiting a.wanted a.idle ≡ 0) ⊎ (asks_of a.waiting a.wanted a.idle ≢ 0) → b.waiting ≡ less a.waiting b.granted
          at (inl none) =
              let same = unasked none in
              let empty : b.granted ≡ 0 = (λ x. (same x).granted) ∙ clear in
              (λ x. (same x).waiting) ∙ sym (less-zero a.waiting) ∙ ap (less a.waiting) (sym empty)
          at (inr some) =
              let has = asked some in
              has.waiting ∙ ap (less a.waiting) (sym (granted-is size vcs was b pattern.some pattern.table.few may.waiting clear has))

      -- ---- which output channels are owned
      owned-same : ShowsOwned ports vcs (bit_or a.inputs.active granted) a.out_port a.out_vc (allotted_marks size vcs was s.marks)
      owned-same =
          let marks : allotted_marks size vcs was s.marks ≡ record s.marks { set = a.set; turn = a.turn } = λ x. (not-allotted size vcs was s.column s.marks clear unlost x).marks in
          let none : a.inputs.active ≡ bit_or a.inputs.active granted = sym (or-zero a.inputs.active) ∙ ap (bit_or a.inputs.active) (sym clear) in
          subst (λ m. ShowsOwned ports vcs (bit_or a.inputs.active granted) a.out_port a.out_vc m) (sym marks)
          (owned-as ports vcs (bit_or a.inputs.active granted) a.out_port a.out_vc s.marks a.set a.turn (subst (λ active. ShowsOwned ports vcs active a.out_port a.out_vc s.marks) none shows.marks.owned))

      owned-allotted : ShowsOwned ports vcs (bit_or a.inputs.active b.granted) b.out_port b.out_vc (allotted_marks size vcs b s.marks)
      owned-allotted = at (cases_eq (asks_of a.waiting a.wanted a.idle) 0)
        where
          at : (asks_of a.waiting a.wanted a.idle ≡ 0) ⊎ (asks_of a.waiting a.wanted a.idle ≢ 0) → ShowsOwned ports vcs (bit_or a.inputs.active b.granted) b.out_port b.out_vc (allotted_marks size vcs b s.marks)
          at (inl none) = subst (λ (y : Allotment). ShowsOwned ports vcs (bit_or a.inputs.active y.granted) y.out_port y.out_vc (allotted_marks size vcs y s.marks)) (sym (unasked none)) owned-same
          at (inr some) = shows-owned ports vcs a.inputs.active was b s.marks pattern.some pattern.table.few may.waiting may.idle clear may.apart may.busy (asked some) shows.marks.owned

      -- ---- and then heads are routed
      module _ (sets : ℕ → ℕ → ℕ) (set : ℕ → ℕ) (all : ℕ) (fits : all < 2 ^ 64)
          (routed : (m : RouterMarks) → HasRouted standing.heads sets (record m { set = b.set; packet = a.packet }) (record m { set = set; packet = a.packet }) b.wanted all) where
        abbrev pub chosen : Allocation
        chosen = routed_after allotted set all

        pub choice : HasChosen size (λ o. o / vcs) (lane_heads s.filled s.column) sets (undecided s) chosen
        choice =
            let marks = allotted_marks size vcs b s.marks in
            let heads = subst (λ packet. HasRouted standing.heads sets (record marks { packet = packet }) (record marks { set = set; packet = packet }) b.wanted all) (sym shows.marks.packet) (routed marks) in
            subst (λ x. HasChosen size (λ o. o / vcs) (lane_heads s.filled s.column) sets x chosen) before-is
            (subst (λ x. HasChosen size (λ o. o / vcs) x sets (allotted_before was s.column s.marks) chosen) shows.heads
            (is-chosen size vcs standing.heads all sets set was b s.column s.marks pattern.some pattern.table.few may.waiting clear unlost fits asked unasked heads))

        pub owned : ShowsOwned ports vcs (bit_or a.inputs.active b.granted) b.out_port b.out_vc chosen.marks
        owned = owned-as ports vcs (bit_or a.inputs.active b.granted) b.out_port b.out_vc (allotted_marks size vcs b s.marks) set b.turn owned-allotted
