-- The weights of the flits fall by one for each move, and by one more for each
-- credit that is sent back.
use Rattle.std.proofs.Common.{◌≡◌, ◌≢◌, ℕ, zero, suc, ◌+◌, ◌*◌, ◌<◌, Bool, true, false, cond, List, [], ◌∷◌, map, length, Option, Some, None, refl, ap, sym, ◌∙◌, arith, inl, inr, subst, ⊎_elim}
use Rattle.std.specs.Prelude.{filter, find, nat_eq, nat_lt, ◌&&◌, sum_by, count_by}
use Rattle.std.proofs.lemmas.List.Sums.{length-filter}
use Rattle.noc_theory.proofs.Common.{false≢true, true≢false, eqb-true, eq-eqb, and_parts, and_right, and_from, ltb-true, sum_by-cons, In, Located, On, Out, Place, Setup, Source, State, after_verdicts, all_inputs, claim_of, count_in, front_in, gone_to, next_channel, is_in, is_the_flit, moved_place, round_at, verdict_at, verdict_in, weight, Channel, arrival_of, channel_vc, is_link, same_channel, is_moved, verdict_of, Empty, Moved, Has, is_moved-true}
use Rattle.noc_theory.proofs.worms.BufferLemmas.{same_flit, IsDistinct, same_channel-refl, same_channel-true, moved-holds}
use Rattle.noc_theory.proofs.worms.MemberLemmas.{Has-filter, find-some}
use Rattle.noc_theory.proofs.budget.SumLemmas.{sum_by-sum_by, sum_by-+}
use Rattle.noc_theory.proofs.budget.RemainderPhaseLemmas.{sum_by-each}
use Rattle.noc_theory.proofs.budget.InjectionProgressLemmas.{IsApart, distinct-apart, all-has, sum-none}

-- a step by which each element loses so much
pub sum_by-loses_by : {X : Type 0} (w : X → ℕ) (step : X → X) (loss : X → ℕ) (xs : List X) → ((x : X) → Has x xs → w (step x) + loss x ≡ w x)
    → sum_by w (map step xs) + sum_by loss xs ≡ sum_by w xs
sum_by-loses_by w step loss [] one = refl
sum_by-loses_by w step loss (x ∷ xs) one =
    let here = one x (inl refl) in
    let rest = sum_by-loses_by w step loss xs (λ y k. one y (inr k)) in
    let e1 = sum_by-cons w (step x) (map step xs) in
    let e2 = sum_by-cons loss x xs in
    let e3 = sum_by-cons w x xs in
    omega arith

plus-zero : (m : ℕ) → m + 0 ≡ m
plus-zero m = omega arith

zero-plus : (m : ℕ) → 0 + m ≡ m
zero-plus m = omega arith

-- the first hit alone is counted, where no two are the same
pub amount-first : {X : Type 0} (k : ℕ) (u : X → Bool) (same : X → X → Bool) (g : X) → same g g ≡ true → (xs : List X) → find u xs ≡ Some g → IsApart same xs
    → sum_by (λ x. cond (u x && same x g) k 0) xs ≡ k
amount-first k u same g self [] e apart = absurd (cc e)
amount-first k u same g self (x ∷ xs) e apart = at (u x) refl (λ h. amount-first k u same g self xs h apart.1)
  where
    at : (b : Bool) → u x ≡ b → (find u xs ≡ Some g → sum_by (λ y. cond (u y && same y g) k 0) xs ≡ k) → sum_by (λ y. cond (u y && same y g) k 0) (x ∷ xs) ≡ k
    at true h rest =
        let s : Some x ≡ Some g = sym (rw h) ∙ e in
        let xg : x ≡ g = cc in
        let here : cond (u x && same x g) k 0 ≡ k = ap (λ b. cond (b && same x g) k 0) h ∙ ap (λ y. cond (same y g) k 0) xg ∙ ap (λ b. cond b k 0) self in
        let others : sum_by (λ y. cond (u y && same y g) k 0) xs ≡ 0
        = sum-none (λ y. cond (u y && same y g) k 0) xs (λ y m. let no : same y g ≡ false = subst (λ z. same y z ≡ false) xg (all-has (λ z. same z x ≡ false) xs y apart.0 m) in ap (λ b. cond b k 0) (and_right (u y) (same y g) no)) in
        let c = sum_by-cons (λ y. cond (u y && same y g) k 0) x xs in
        c ∙ ap (λ m. m + sum_by (λ y. cond (u y && same y g) k 0) xs) here ∙ ap (λ m. k + m) others ∙ plus-zero k
    at false h rest =
        let here : cond (u x && same x g) k 0 ≡ 0 = ap (λ b. cond (b && same x g) k 0) h in
        let c = sum_by-cons (λ y. cond (u y && same y g) k 0) x xs in
        c ∙ ap (λ m. m + sum_by (λ y. cond (u y && same y g) k 0) xs) here ∙ zero-plus (sum_by (λ y. cond (u y && same y g) k 0) xs) ∙ rest (sym (rw h) ∙ e)

-- an amount at one channel, among channels that are all different
pub amount-at : (amount : Channel → ℕ) (d : Channel) (cs : List Channel) → (amount d ≢ 0 → Has d cs) → IsApart same_channel cs
    → sum_by (λ c. cond (same_channel c d) (amount c) 0) cs ≡ amount d
amount-at amount d [] listed apart = at (amount d) refl
  where
    at : (x : ℕ) → amount d ≡ x → 0 ≡ amount d
    at zero e = sym e
    at (suc x) e = absurd (listed (λ z. omega arith))
amount-at amount d (c ∷ cs) listed apart = at (same_channel c d) refl (λ l. amount-at amount d cs l apart.1)
  where
    at : (b : Bool) → same_channel c d ≡ b → ((amount d ≢ 0 → Has d cs) → sum_by (λ x. cond (same_channel x d) (amount x) 0) cs ≡ amount d)
        → sum_by (λ x. cond (same_channel x d) (amount x) 0) (c ∷ cs) ≡ amount d
    at true e rest =
        let cd : c ≡ d = same_channel-true c d e in
        let others : sum_by (λ x. cond (same_channel x d) (amount x) 0) cs ≡ 0
        = sum-none (λ x. cond (same_channel x d) (amount x) 0) cs (λ x h. ap (λ b. cond b (amount x) 0) (subst (λ z. same_channel x z ≡ false) cd (all-has (λ z. same_channel z c ≡ false) cs x apart.0 h))) in
        sum_by-cons (λ x. cond (same_channel x d) (amount x) 0) c cs
        ∙ ap (λ m. m + sum_by (λ x. cond (same_channel x d) (amount x) 0) cs) (ap (λ b. cond b (amount c) 0) e ∙ ap amount cd)
        ∙ ap (λ m. amount d + m) others ∙ plus-zero (amount d)
    at false e rest =
        sum_by-cons (λ x. cond (same_channel x d) (amount x) 0) c cs
        ∙ ap (λ m. m + sum_by (λ x. cond (same_channel x d) (amount x) 0) cs) (ap (λ b. cond b (amount c) 0) e)
        ∙ zero-plus (sum_by (λ x. cond (same_channel x d) (amount x) 0) cs)
        ∙ rest (λ z. ⊎_elim (λ s. absurd (true≢false (sym (ap (λ x. same_channel x d) (sym s) ∙ same_channel-refl d) ∙ e))) (λ h. h) (listed z))

-- where a flit goes that leaves the buffer of c in cycle n
abbrev pub gone : (net : Setup) → State → ℕ → Channel → Place
gone net F n c = gone_to net n c (next_channel net F c)

module _ (net : Setup) (n : ℕ) (F : State) where
  -- what a move off c takes: the hop, and the credit that is to come back
  abbrev pub loss : Channel → ℕ
  loss c = cond (is_link c) 2 1

  -- what is assumed of moves: a channel that moves is one of the network, and its flit comes nearer
  pub record MovesNear : Type 0 where
    pub listed : (c : Channel) → verdict_in net F c ≡ Moved → Has c (all_inputs net)
    pub nearer : (c : Channel) (f : Located) → verdict_in net F c ≡ Moved → front_in net F c ≡ Some f → weight net f.packet (gone net F n c) + loss c ≡ weight net f.packet (In c)

  -- whether f moves off c, which is where it is
  abbrev moves : Located → Channel → Bool
  moves f c = is_moved (verdict_in net F c) && is_the_flit net f (front_in net F c)

  abbrev lost_at : Located → Place → ℕ
  lost_at f Source = 0
  lost_at f (On c) = 0
  lost_at f (In c) = cond (moves f c) (loss c) 0
  lost_at f (Out m) = 0

  moved-flit : (c : Channel) → verdict_in net F c ≡ Moved → 0 < count_in net F c
  moved-flit c e = at (arrival_of net.relation.grid c) refl
    where
      at : (a : Option (ℕ × ℕ)) → arrival_of net.relation.grid c ≡ a → 0 < count_in net F c
      at None h = let g : Empty ≡ Moved = sym (ap (verdict_at net F c) h) ∙ e in absurd (cc g)
      at (Some place) h =
          let g : verdict_of net.relation.vcs (round_at net F place.0) (place.1 * net.relation.vcs + channel_vc c) (claim_of net F place.0 c) (nat_lt 0 (count_in net F c)) ≡ Moved
          = sym (ap (verdict_at net F c) h) ∙ e in
          ltb-true 0 (count_in net F c) (moved-holds net.relation.vcs (round_at net F place.0) (place.1 * net.relation.vcs + channel_vc c) (claim_of net F place.0 c) (nat_lt 0 (count_in net F c)) g).2

  module _ (near : MovesNear) (distinct : IsDistinct (same_flit) F.at) (once : IsApart same_channel (all_inputs net)) where
    weight-moved : (f : Located) (place : Place) → weight net f.packet (moved_place net F n f place) + lost_at f place ≡ weight net f.packet place
    weight-moved f Source = omega arith
    weight-moved f (On c) = omega arith
    weight-moved f (Out m) = omega arith
    weight-moved f (In c) = at (moves f c) refl
      where
        flit-of : (o : Option Located) → front_in net F c ≡ o → is_the_flit net f o ≡ true → (g : Located) × (front_in net F c ≡ Some g) × (f.packet ≡ g.packet)
        flit-of None e k = absurd (false≢true k)
        flit-of (Some g) e k = (g, e, eqb-true f.packet g.packet (and_parts (nat_eq f.packet g.packet) (nat_eq f.index g.index) k).0)

        at : (b : Bool) → moves f c ≡ b → weight net f.packet (cond b (gone net F n c) (In c)) + cond b (loss c) 0 ≡ weight net f.packet (In c)
        at false e = plus-zero (weight net f.packet (In c))
        at true e =
            let parts = and_parts (is_moved (verdict_in net F c)) (is_the_flit net f (front_in net F c)) e in
            let g = flit-of (front_in net F c) refl parts.1 in
            subst (λ (p : ℕ). weight net p (gone net F n c) + loss c ≡ weight net p (In c)) (sym g.2) (near.nearer c g.0 (is_moved-true (verdict_in net F c) parts.0) g.1)

    -- the loss of a flit, channel by channel
    lost-by : (f : Located) (place : Place) → sum_by (λ c. cond (is_in c place) (cond (moves f c) (loss c) 0) 0) (all_inputs net) ≡ lost_at f place
    lost-by f Source = sum-none (λ c. cond (is_in c Source) (cond (moves f c) (loss c) 0) 0) (all_inputs net) (λ c h. refl)
    lost-by f (On d) = sum-none (λ c. cond (is_in c (On d)) (cond (moves f c) (loss c) 0) 0) (all_inputs net) (λ c h. refl)
    lost-by f (Out m) = sum-none (λ c. cond (is_in c (Out m)) (cond (moves f c) (loss c) 0) 0) (all_inputs net) (λ c h. refl)
    lost-by f (In d) = amount-at (λ c. cond (moves f c) (loss c) 0) d (all_inputs net) listed once
      where
        listed : cond (moves f d) (loss d) 0 ≢ 0 → Has d (all_inputs net)
        listed z = at (moves f d) refl
          where
            at : (b : Bool) → moves f d ≡ b → Has d (all_inputs net)
            at false e = absurd (z (ap (λ b. cond b (loss d) 0) e))
            at true e = near.listed d (is_moved-true (verdict_in net F d) (and_parts (is_moved (verdict_in net F d)) (is_the_flit net f (front_in net F d)) e).0)

    -- and the loss at a channel, flit by flit
    lost-in : (c : Channel) → sum_by (λ (f : Located). cond (is_in c f.place) (cond (moves f c) (loss c) 0) 0) F.at ≡ cond (is_moved (verdict_in net F c)) (loss c) 0
    lost-in c = at (is_moved (verdict_in net F c)) refl
      where
        both : (a b : Bool) → cond a (cond b (loss c) 0) 0 ≡ cond (a && b) (loss c) 0
        both true b = refl
        both false b = refl

        some-flit : (gs : List Located) → 0 < length gs → (g : Located) × Has g gs
        some-flit [] l = absurd (omega arith)
        some-flit (g ∷ gs) l = (g, inl refl)

        at : (b : Bool) → is_moved (verdict_in net F c) ≡ b → sum_by (λ (f : Located). cond (is_in c f.place) (cond (moves f c) (loss c) 0) 0) F.at ≡ cond b (loss c) 0
        at false e = sum-none (λ (f : Located). cond (is_in c f.place) (cond (moves f c) (loss c) 0) 0) F.at (λ f h. none (is_in c f.place) (is_the_flit net f (front_in net F c)))
          where
            none : (a d : Bool) → cond a (cond (is_moved (verdict_in net F c) && d) (loss c) 0) 0 ≡ 0
            none true d = ap (λ b. cond (b && d) (loss c) 0) e
            none false d = refl
        at true e =
            let s = some-flit (filter (λ (f : Located). is_in c f.place) F.at) (moved-flit c (is_moved-true (verdict_in net F c) e)) in
            let k = Has-filter (λ (f : Located). is_in c f.place) s.0 F.at s.1 in
            let g = find-some (λ (f : Located). is_in c f.place) F.at s.0 k.0 k.1 in
            sum_by-each (λ (f : Located). cond (is_in c f.place) (cond (moves f c) (loss c) 0) 0) (λ (f : Located). cond (is_in c f.place && same_flit f g.0) (loss c) 0) F.at
            (λ f h. ap (λ b. cond (is_in c f.place) (cond (b && is_the_flit net f (front_in net F c)) (loss c) 0) 0) e
            ∙ ap (λ o. cond (is_in c f.place) (cond (is_the_flit net f o) (loss c) 0) 0) g.1 ∙ both (is_in c f.place) (same_flit f g.0))
            ∙ amount-first (loss c) (λ (f : Located). is_in c f.place) (same_flit) g.0 (and_from _ _ (eq-eqb g.0.packet g.0.packet refl) (eq-eqb g.0.index g.0.index refl)) F.at g.1 (distinct-apart (same_flit) F.at distinct)

    split : (m l : Bool) → cond m (cond l 2 1) 0 ≡ cond m 1 0 + cond (l && m) 1 0
    split true true = omega arith
    split true false = omega arith
    split false true = omega arith
    split false false = omega arith

    -- the weights fall by one for each move and one for each credit sent back
    pub moves-fall : sum_by (λ (f : Located). weight net f.packet f.place) (after_verdicts net n F).at
        + (count_by (λ c. is_moved (verdict_in net F c)) (all_inputs net) + length (after_verdicts net n F).back)
        ≡ sum_by (λ (f : Located). weight net f.packet f.place) F.at
    unfolding after_verdicts
    moves-fall =
        let w = sum_by-loses_by (λ (f : Located). weight net f.packet f.place) (λ (f : Located). record f { place = moved_place net F n f f.place }) (λ f. lost_at f f.place) F.at (λ f h. weight-moved f f.place) in
        let lost : sum_by (λ (f : Located). lost_at f f.place) F.at ≡ count_by (λ c. is_moved (verdict_in net F c)) (all_inputs net) + length (after_verdicts net n F).back
        = sum_by-each (λ (f : Located). lost_at f f.place) (λ f. sum_by (λ c. cond (is_in c f.place) (cond (moves f c) (loss c) 0) 0) (all_inputs net)) F.at (λ f h. sym (lost-by f f.place))
        ∙ sum_by-sum_by (λ (f : Located) c. cond (is_in c f.place) (cond (moves f c) (loss c) 0) 0) F.at (all_inputs net)
        ∙ sum_by-each (λ c. sum_by (λ (f : Located). cond (is_in c f.place) (cond (moves f c) (loss c) 0) 0) F.at) (λ c. cond (is_moved (verdict_in net F c)) 1 0 + cond (is_link c && is_moved (verdict_in net F c)) 1 0) (all_inputs net)
        (λ c h. lost-in c ∙ split (is_moved (verdict_in net F c)) (is_link c))
        ∙ sum_by-+ (λ c. cond (is_moved (verdict_in net F c)) 1 0) (λ c. cond (is_link c && is_moved (verdict_in net F c)) 1 0) (all_inputs net)
        ∙ ap (λ m. count_by (λ c. is_moved (verdict_in net F c)) (all_inputs net) + m) (sym (length-filter (λ c. is_link c && is_moved (verdict_in net F c)) (all_inputs net))) in
        omega arith
