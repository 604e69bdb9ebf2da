-- Buffers: the first flit of one leaves where its verdict is Moved, and all else stays.
use Rattle.std.proofs.Common.{◌≡◌, ℕ, ◌+◌, ◌*◌, Bool, true, false, cond, List, [], ◌∷◌, map, Option, Some, None, drop, refl, ap, sym, ◌∙◌, get_or, subst}
use Rattle.std.specs.Prelude.{option_and_then, filter, find, nat_eq, nat_lt, ◌&&◌}
use Rattle.noc_theory.proofs.Common.{AllByRecursion, false≢true, and_from, and_parts, and_right, and_left, eq-eqb, eqb-true, is_some_of, Channel, Link, Inject, Eject, same_channel, arrival_of, channel_vc, Claim, Unrouted, Waits, Holds, Round, verdict_of, is_moved, Setup, State, Located, Place, Source, On, In, Out, buffer_of, front_in, is_in, is_the_flit, moved_place, after_verdicts, verdict_in, gone_to, next_channel, claim_of, owned_by, owner_of, has_channel, ask, round_at, count_in, verdict_at, leads_from, Empty, Granted, Moved, LostChannel}

-- whether two are the same flit
abbrev pub same_flit : Located → Located → Bool
same_flit f g = nat_eq f.packet g.packet && nat_eq f.index g.index

-- no two entries are of one flit
abbrev pub IsDistinct : (Located → Located → Bool) → List Located → Type 0
IsDistinct same [] = Unit {0}
IsDistinct same (f ∷ fs) = AllByRecursion (λ g. same g f ≡ false) fs × IsDistinct same fs

-- a step that takes the first hit away from a list, and leaves the others
module _ (hit : Located → Bool) (same : Located → Located → Bool) (step : Located → Located) (first : Option Located)
    (misses : (f : Located) → hit f ≡ false → hit (step f) ≡ false)
    (leaves : (f : Located) → hit f ≡ true → first ≡ Some f → hit (step f) ≡ false)
    (stays : (f g : Located) → hit f ≡ true → first ≡ Some g → same f g ≡ false → step f ≡ f) where
  filter-rest : (g : Located) (fs : List Located) → first ≡ Some g → AllByRecursion (λ f. same f g ≡ false) fs
      → filter hit (map step fs) ≡ filter hit fs
  filter-rest g [] e other = refl
  filter-rest g (f ∷ fs) e other = at (hit f) refl (filter-rest g fs e other.1)
    where
      at : (b : Bool) → hit f ≡ b → filter hit (map step fs) ≡ filter hit fs → filter hit (step f ∷ map step fs) ≡ filter hit (f ∷ fs)
      at true h rest = rw (stays f g h e other.0) (rw h (ap (λ xs. f ∷ xs) rest))
      at false h rest = rw (misses f h) (rw h rest)

  pub filter-first : (fs : List Located) → find hit fs ≡ first → IsDistinct same fs → filter hit (map step fs) ≡ drop 1 (filter hit fs)
  filter-first [] e d = refl
  filter-first (f ∷ fs) e d = at (hit f) refl (λ same_first. filter-first fs same_first d.1)
    where
      at : (b : Bool) → hit f ≡ b → (find hit fs ≡ first → filter hit (map step fs) ≡ drop 1 (filter hit fs))
          → filter hit (step f ∷ map step fs) ≡ drop 1 (filter hit (f ∷ fs))
      at true h rest = let is : first ≡ Some f = sym e ∙ (rw h) in rw (leaves f h is) (rw h (filter-rest f fs is d.0))
      at false h rest = let is : find hit fs ≡ first = sym (rw h) ∙ e in rw (misses f h) (rw h (rest is))

-- a step that keeps every hit and makes none
pub filter-kept : (hit : Located → Bool) (step : Located → Located) → ((f : Located) → hit f ≡ true → step f ≡ f) → ((f : Located) → hit f ≡ false → hit (step f) ≡ false)
    → (fs : List Located) → filter hit (map step fs) ≡ filter hit fs
filter-kept hit step keeps misses [] = refl
filter-kept hit step keeps misses (f ∷ fs) = at (hit f) refl (filter-kept hit step keeps misses fs)
  where
    at : (b : Bool) → hit f ≡ b → filter hit (map step fs) ≡ filter hit fs → filter hit (step f ∷ map step fs) ≡ filter hit (f ∷ fs)
    at true h rest = rw (keeps f h) (rw h (ap (λ xs. f ∷ xs) rest))
    at false h rest = rw (misses f h) (rw h rest)

-- a channel is the same as itself
pub same_channel-refl : (c : Channel) → same_channel c c ≡ true
same_channel-refl (Link r p v) = and_from _ _ (eq-eqb r r refl) (and_from _ _ (eq-eqb p p refl) (eq-eqb v v refl))
same_channel-refl (Inject n v) = and_from _ _ (eq-eqb n n refl) (eq-eqb v v refl)
same_channel-refl (Eject n v) = and_from _ _ (eq-eqb n n refl) (eq-eqb v v refl)

pub same_channel-true : (c d : Channel) → same_channel c d ≡ true → c ≡ d
same_channel-true (Link r p v) (Link a q w) e =
    let one = and_parts (nat_eq r a) (nat_eq p q && nat_eq v w) e in
    let two = and_parts (nat_eq p q) (nat_eq v w) one.1 in
    let er : r ≡ a = eqb-true r a one.0 in
    let ep : p ≡ q = eqb-true p q two.0 in
    let ev : v ≡ w = eqb-true v w two.1 in cc
same_channel-true (Inject n v) (Inject m w) e =
    let one = and_parts (nat_eq n m) (nat_eq v w) e in
    let en : n ≡ m = eqb-true n m one.0 in
    let ev : v ≡ w = eqb-true v w one.1 in cc
same_channel-true (Eject n v) (Eject m w) e =
    let one = and_parts (nat_eq n m) (nat_eq v w) e in
    let en : n ≡ m = eqb-true n m one.0 in
    let ev : v ≡ w = eqb-true v w one.1 in cc
same_channel-true (Link r p v) (Inject m w) e = absurd (false≢true e)
same_channel-true (Link r p v) (Eject m w) e = absurd (false≢true e)
same_channel-true (Inject n v) (Link a q w) e = absurd (false≢true e)
same_channel-true (Inject n v) (Eject m w) e = absurd (false≢true e)
same_channel-true (Eject n v) (Link a q w) e = absurd (false≢true e)
same_channel-true (Eject n v) (Inject m w) e = absurd (false≢true e)

pub find-passes : {X : Type 0} (t : X → Bool) (xs : List X) (x : X) → find t xs ≡ Some x → t x ≡ true
find-passes t [] x e = absurd (elim_none e)
  where
    elim_none : None ≡ Some x → ⊥
    elim_none h = cc
find-passes t (y ∷ ys) x e = at (t y) refl (find-passes t ys x)
  where
    at : (b : Bool) → t y ≡ b → (find t ys ≡ Some x → t x ≡ true) → t x ≡ true
    at true h rest = let same : Some y ≡ Some x = sym (rw h) ∙ e in let yx : y ≡ x = cc in ap t (sym yx) ∙ h
    at false h rest = rest (sym (rw h) ∙ e)

-- a verdict Moved is that of a channel with a next channel, a credit and a flit
pub moved-holds : (vcs : ℕ) (round : Round) (i : ℕ) (claim : Claim) (flit : Bool) → verdict_of vcs round i claim flit ≡ Moved
    → (o : ℕ) × (claim ≡ Holds o true) × (flit ≡ true)
moved-holds vcs round i Unrouted true e = absurd (cc e)
moved-holds vcs round i Unrouted false e = absurd (cc e)
moved-holds vcs round i (Waits None) flit e = absurd (cc e)
moved-holds vcs round i (Waits (Some o)) flit e = at (is_some_of (get_or round.grants o None) i) refl
  where
    at : (b : Bool) → is_some_of (get_or round.grants o None) i ≡ b → (x : ℕ) × (Waits (Some o) ≡ Holds x true) × (flit ≡ true)
    at true h = let g : Granted ≡ Moved = sym (rw h) ∙ e in absurd (cc g)
    at false h = let g : LostChannel ≡ Moved = sym (rw h) ∙ e in absurd (cc g)
moved-holds vcs round i (Holds o true) true e = (o, refl, refl)
moved-holds vcs round i (Holds o true) false e = absurd (cc e)
moved-holds vcs round i (Holds o false) true e = absurd (cc e)
moved-holds vcs round i (Holds o false) false e = absurd (cc e)

module _ (net : Setup) (F : State) (n : ℕ) where
  abbrev step : Located → Located
  step f = record f { place = moved_place net F n f f.place }

  -- a channel whose claim holds an output channel has a next channel
  pub holds-next : (r : ℕ) (c : Channel) (i : ℕ) → claim_of net F r c ≡ Holds i true → (o : Channel) × (next_channel net F c ≡ Some o)
  holds-next r c i e = at (has_channel F.routed c) refl (next_channel net F c) refl
    where
      at : (b : Bool) → has_channel F.routed c ≡ b → (next : Option Channel) → next_channel net F c ≡ next → (o : Channel) × (next_channel net F c ≡ Some o)
      at false h next k = let g : Unrouted ≡ Holds i true = sym (rw h) ∙ e in absurd (cc g)
      at true h None k = let g : Waits (ask net F r c) ≡ Holds i true = sym (rw (h, k)) ∙ e in absurd (cc g)
      at true h (Some o) k = (o, k)

  -- a channel whose flit moves has a next channel
  pub next-some : (c : Channel) → verdict_in net F c ≡ Moved → (o : Channel) × (next_channel net F c ≡ Some o)
  next-some c e = at (arrival_of net.relation.grid c) refl
    where
      at : (a : Option (ℕ × ℕ)) → arrival_of net.relation.grid c ≡ a → (o : Channel) × (next_channel net F c ≡ Some o)
      at None h = let g : Empty ≡ Moved = sym (ap (verdict_at net F c) h) ∙ e in absurd (cc g)
      at (Some place) h =
          let g : verdict_of net.relation.vcs (round_at net F place.0) (place.1 * net.relation.vcs + channel_vc c) (claim_of net F place.0 c) (nat_lt 0 (count_in net F c)) ≡ Moved
          = sym (ap (verdict_at net F c) h) ∙ e in
          let held = moved-holds net.relation.vcs (round_at net F place.0) (place.1 * net.relation.vcs + channel_vc c) (claim_of net F place.0 c) (nat_lt 0 (count_in net F c)) g in
          holds-next place.0 c held.0 held.1

  -- a next channel is no injection channel
  pub next-begins : (c o : Channel) → next_channel net F c ≡ Some o → leads_from net c o ≡ true
  next-begins c o e = at (owner_of net F c) refl
    where
      at : (w : Option ℕ) → owner_of net F c ≡ w → leads_from net c o ≡ true
      at None h = let g : None ≡ Some o = sym (ap (option_and_then (λ p. find (leads_from net c) (owned_by net F p))) h) ∙ e in absurd (cc g)
      at (Some p) h = find-passes (leads_from net c) (owned_by net F p) o (sym (ap (option_and_then (λ p. find (leads_from net c) (owned_by net F p))) h) ∙ e)

  gone-leaves : (c : Channel) → verdict_in net F c ≡ Moved → is_in c (gone_to net n c (next_channel net F c)) ≡ false
  gone-leaves c e = at (next-some c e).0 (next-some c e).1
    where
      at : (o : Channel) → next_channel net F c ≡ Some o → is_in c (gone_to net n c (next_channel net F c)) ≡ false
      at (Link r p v) h = ap (λ next. is_in c (gone_to net n c next)) h
      at (Eject m v) h = ap (λ next. is_in c (gone_to net n c next)) h
      at (Inject m v) h = absurd (false≢true (next-begins c (Inject m v) h))

  misses-at : (c : Channel) (f : Located) (place : Place) → is_in c place ≡ false → is_in c (moved_place net F n f place) ≡ false
  misses-at c f Source h = refl
  misses-at c f (On d) h = refl
  misses-at c f (Out m) h = refl
  misses-at c f (In d) h = at (is_moved (verdict_in net F d) && is_the_flit net f (front_in net F d)) (next_channel net F d)
    where
      at : (b : Bool) (next : Option Channel) → is_in c (cond b (gone_to net n d next) (In d)) ≡ false
      at false next = h
      at true None = h
      at true (Some (Link r p v)) = refl
      at true (Some (Inject r v)) = h
      at true (Some (Eject r v)) = refl

  leaves-at : (c : Channel) (f : Located) (place : Place) → verdict_in net F c ≡ Moved → is_in c place ≡ true → front_in net F c ≡ Some f
      → is_in c (moved_place net F n f place) ≡ false
  leaves-at c f Source m h first = absurd (false≢true h)
  leaves-at c f (On d) m h first = absurd (false≢true h)
  leaves-at c f (Out k) m h first = absurd (false≢true h)
  leaves-at c f (In d) m h first =
      let same : c ≡ d = same_channel-true c d h in
      let moves : (is_moved (verdict_in net F c) && is_the_flit net f (front_in net F c)) ≡ true = and_from _ _ (ap (is_moved) m) (ap (is_the_flit net f) first ∙ same_flit-refl f) in
      subst (λ (x : Channel). is_in c (moved_place net F n f (In x)) ≡ false) same
      (ap (λ b. is_in c (cond b (gone_to net n c (next_channel net F c)) (In c))) moves ∙ gone-leaves c m)
    where
      same_flit-refl : (g : Located) → same_flit g g ≡ true
      same_flit-refl g = and_from _ _ (eq-eqb g.packet g.packet refl) (eq-eqb g.index g.index refl)

  stays-at : (c : Channel) (f : Located) (place : Place) (g : Located) → is_in c place ≡ true → front_in net F c ≡ Some g → same_flit f g ≡ false
      → moved_place net F n f place ≡ place
  stays-at c f Source g h first other = refl
  stays-at c f (On d) g h first other = refl
  stays-at c f (Out k) g h first other = refl
  stays-at c f (In d) g h first other =
      let same : c ≡ d = same_channel-true c d h in
      let no : is_the_flit net f (front_in net F d) ≡ false = ap (λ (x : Channel). is_the_flit net f (front_in net F x)) (sym same) ∙ ap (is_the_flit net f) first ∙ other in
      ap (λ b. cond b (gone_to net n d (next_channel net F d)) (In d)) (and_right _ _ no)

  -- after the moves the buffer of a channel has lost its first flit, where that moved
  pub buffer-moved : (c : Channel) → verdict_in net F c ≡ Moved → IsDistinct (same_flit) F.at
      → buffer_of net (after_verdicts net n F) c ≡ drop 1 (buffer_of net F c)
  unfolding after_verdicts
  buffer-moved c m distinct =
      filter-first (λ f. is_in c f.place) (same_flit) step (front_in net F c)
      (λ f h. misses-at c f f.place h)
      (λ f h first. leaves-at c f f.place m h first)
      (λ f g h first other. ap (λ (q : Place). record f { place = q }) (stays-at c f f.place g h first other))
      F.at refl distinct

  -- and is as it was elsewhere
  pub buffer-stays : (c : Channel) → is_moved (verdict_in net F c) ≡ false → buffer_of net (after_verdicts net n F) c ≡ buffer_of net F c
  unfolding after_verdicts
  buffer-stays c m =
      filter-kept (λ f. is_in c f.place) step
      (λ f h. ap (λ (q : Place). record f { place = q }) (unmoved f f.place h))
      (λ f h. misses-at c f f.place h)
      F.at
    where
      unmoved : (f : Located) (place : Place) → is_in c place ≡ true → moved_place net F n f place ≡ place
      unmoved f Source h = refl
      unmoved f (On d) h = refl
      unmoved f (Out k) h = refl
      unmoved f (In d) h =
          let same : c ≡ d = same_channel-true c d h in
          let no : is_moved (verdict_in net F d) ≡ false = ap (λ (x : Channel). is_moved (verdict_in net F x)) (sym same) ∙ m in
          ap (λ b. cond b (gone_to net n d (next_channel net F d)) (In d)) (and_left _ _ no)
