-- A check of ranks has one first fault, and none where the relation is ranked.
use Rattle.std.proofs.Common.{◌≡◌, ◌≢◌, ℕ, List, get_or, Option, Some, None, true, ◌+◌, refl, sym, subst, ap, ◌∙◌, arith}
use Rattle.std.specs.Prelude.{IsTrue}
use Rattle.std.proofs.lemmas.Bool.{and_parts}
use Rattle.noc_topo.specs.Shape.{IsGrid}
use Rattle.noc_route.specs.Channel.{Channel, Link, arrival_of}
use Rattle.noc_route.specs.Ranks.{Ranking, direct, rank_at, AreAllRanked, IsRankedBy}
use Rattle.noc_route.specs.Routes.{Routes, permits, permits_at, is_sent}
use Rattle.noc_route.specs.declared.rule.Entry.{Entry}
use Rattle.noc_route.specs.declared.rule.RouteRow.{RouteRow}
use Rattle.noc_route.proofs.BuiltLemmas.{same-channel}
use Rattle.noc_route.proofs.OneFaultLemmas.{one_place, one_entry, one_row}
use Rattle.noc_rank.specs.Faults.{HasEscapes, IsBare, IsDescent, IsFaultOfCheck, IsFirstBare, IsFirstDescent, pair_numbers, step_of}
use Rattle.noc_rank.specs.Rising.{IsFall, IsFirstFall}
use Rattle.noc_rank.specs.declared.fault.RankFault.{RankFault}
use Rattle.noc_rank.specs.declared.fault.RankFault.TheVariants.{NoGenerated, NotRising, NotRisingTo, NoEscape, Memory, UnknownChannel, DoubleChannel, BadRank, MissingChannel}
use Rattle.noc_rank.specs.declared.channel.LinkChannel.{LinkChannel}

-- what a fault other than of memory says of ranks
data CheckSays (routes : Routes) (k : Ranking) (f : RankFault) : Type 0 where
  falls : {e : Entry} {p v a b : ℕ} → f ≡ NotRising e p v a b → AreAllRanked k.grid k.vcs (rank_at k) → IsFirstFall routes k (step_of e p v) a b → CheckSays routes k f
  bare : {e : Entry} → f ≡ NoEscape e → (AreAllRanked k.grid k.vcs (rank_at k) → ⊥) → IsFirstBare routes k e → CheckSays routes k f
  descends : {e o : LinkChannel} {a b : ℕ} → f ≡ NotRisingTo e o a b → (AreAllRanked k.grid k.vcs (rank_at k) → ⊥) → HasEscapes routes k → IsFirstDescent routes k e o a b → CheckSays routes k f

check_says : (routes : Routes) (k : Ranking) (f : RankFault) → f ≢ Memory → IsFaultOfCheck routes k f → CheckSays routes k f
check_says routes k NoGenerated p h = absurd h
check_says routes k Memory p h = absurd (p refl)
check_says routes k (NotRising e q v a b) p h = falls refl h.0 h.1
check_says routes k (NoEscape e) p h = bare refl h.0 h.1
check_says routes k (NotRisingTo e o a b) p h = descends refl h.0 h.1 h.2
check_says routes k (UnknownChannel i) p h = absurd h
check_says routes k (DoubleChannel i) p h = absurd h
check_says routes k (BadRank i) p h = absurd h
check_says routes k (MissingChannel a b c) p h = absurd h

-- ---- a ranked relation has no fault

no_fall : (routes : Routes) (k : Ranking) (step : RouteRow) (a b : ℕ) → IsRankedBy routes k → IsFall routes k step a b → ⊥
no_fall routes k step a b ranked fall =
    let up = ranked.rising step.class step.dst fall.router fall.port step.in_vc step.router step.out_port step.out_vc a b (direct fall.permitted) fall.before_is fall.after_is in
    omega (arith, up, fall.falls)

no_bare : (routes : Routes) (k : Ranking) (e : Entry) → IsRankedBy routes k → IsBare routes k e → ⊥
no_bare routes k e ranked here =
    let found = ranked.escape e.class e.dst here.from here.next e.router e.in_port here.permitted here.input here.away in
    let never : None ≡ Some found.2 = sym (here.none found.0 found.1 found.3) ∙ found.4 in
    cc never

no_descent : (routes : Routes) (k : Ranking) (e o : LinkChannel) (a b : ℕ) → IsRankedBy routes k → IsDescent routes k e o a b → ⊥
no_descent routes k e o a b ranked descent =
    let up = ranked.rising descent.class descent.dst e.router e.port e.vc o.router o.port o.vc a b descent.leads descent.before_is descent.after_is in
    omega (arith, up, descent.falls)

no_say : (routes : Routes) (k : Ranking) (f : RankFault) → IsRankedBy routes k → CheckSays routes k f → ⊥
no_say routes k f ranked (falls {e = e} {p = p} {v = v} {a = a} {b = b} is full first) = no_fall routes k (step_of e p v) a b ranked first.fall
no_say routes k f ranked (bare {e = e} is some first) = no_bare routes k e ranked first.bare
no_say routes k f ranked (descends {e = e} {o = o} {a = a} {b = b} is some escapes first) = no_descent routes k e o a b ranked first.descent

pub no-check-fault : (routes : Routes) (k : Ranking) (f : RankFault) → f ≢ Memory → IsRankedBy routes k → IsFaultOfCheck routes k f → ⊥
no-check-fault routes k f p ranked h = no_say routes k f ranked (check_says routes k f p h)

-- ---- one fault

same-some : (o : Option ℕ) (a b : ℕ) → o ≡ Some a → o ≡ Some b → a ≡ b
same-some o a b e f = let both : Some a ≡ Some b = sym e ∙ f in cc

-- one step falls from one channel
one_from : (routes : Routes) (k : Ranking) (step : RouteRow) (a b c d : ℕ) → IsGrid routes.grid → (x : IsFall routes k step a b) (y : IsFall routes k step c d)
    → Link x.router x.port step.in_vc ≡ Link y.router y.port step.in_vc
one_from routes k step a b c d grid x y =
    same-channel routes.grid routes.sets routes.vcs routes.classes (Link x.router x.port step.in_vc) (Link y.router y.port step.in_vc) (step.router, step.in_port) grid
    (sent x.router x.port x.permitted) (sent y.router y.port y.permitted) x.link y.link refl
  where
    sent : (r p : ℕ) → IsTrue (permits routes step.class (Link r p step.in_vc) step.dst (Link step.router step.out_port step.out_vc)) → is_sent routes (Link r p step.in_vc) ≡ true
    sent r p e =
        (and_parts (is_sent routes (Link r p step.in_vc)) (permits_at routes step.class (arrival_of routes.grid (Link r p step.in_vc)) step.in_vc step.dst (Link step.router step.out_port step.out_vc)) e).0

-- the fault of a step
fault_of_step : RouteRow → ℕ → ℕ → RankFault
fault_of_step step before after =
    NotRising (record { class = step.class; router = step.router; in_port = step.in_port; in_vc = step.in_vc; dst = step.dst }) step.out_port step.out_vc before after

-- the rank of a link channel
rank_of : Ranking → Channel → Option ℕ
rank_of k (Link r p v) = rank_at k r p v
rank_of k _ = None

one_fall : (routes : Routes) (k : Ranking) (s t : RouteRow) (a b c d : ℕ) → IsGrid routes.grid → IsFirstFall routes k s a b → IsFirstFall routes k t c d → fault_of_step s a b ≡ fault_of_step t c d
unfolding rank_of
one_fall routes k s t a b c d grid x y =
    let steps : s ≡ t = one_row s t (y.first s a b x.fall) (x.first t c d y.fall) in
    let P : RouteRow → Type 0 = λ row. IsFall routes k row c d in
    let moved : IsFall routes k s c d = subst P (sym steps) y.fall in
    let from = ap (rank_of k) (one_from routes k s a b c d grid x.fall moved) in
    let before : a ≡ c = same-some (rank_at k moved.router moved.port s.in_vc) a c (sym from ∙ x.fall.before_is) moved.before_is in
    let after : b ≡ d = same-some (rank_at k s.router s.out_port s.out_vc) b d x.fall.after_is moved.after_is in
    ap (λ row. fault_of_step row a b) steps ∙ ap (λ n. fault_of_step t n b) before ∙ ap (fault_of_step t c) after

one_bare : (routes : Routes) (k : Ranking) (e o : Entry) → IsFirstBare routes k e → IsFirstBare routes k o → e ≡ o
one_bare routes k e o x y = one_entry e o (y.first e x.bare) (x.first o y.bare)

channel_with : List ℕ → ℕ → LinkChannel
channel_with ns at = record { router = get_or ns at 0; port = get_or ns (at + 1) 0; vc = get_or ns (at + 2) 0 }

one_descent : (routes : Routes) (k : Ranking) (e o i j : LinkChannel) (a b c d : ℕ) → IsFirstDescent routes k e o a b → IsFirstDescent routes k i j c d → NotRisingTo e o a b ≡ NotRisingTo i j c d
unfolding channel_with
one_descent routes k e o i j a b c d x y =
    let same = one_place (pair_numbers e o) (pair_numbers i j) refl (y.first e o a b x.descent) (x.first i j c d y.descent) in
    let from : e ≡ i = ap (λ ns. channel_with ns 0) same in
    let to : o ≡ j = ap (λ ns. channel_with ns 3) same in
    let before : a ≡ c = same-some (rank_at k i.router i.port i.vc) a c (ap (λ (z : LinkChannel). rank_at k z.router z.port z.vc) (sym from) ∙ x.descent.before_is) y.descent.before_is in
    let after : b ≡ d = same-some (rank_at k j.router j.port j.vc) b d (ap (λ (z : LinkChannel). rank_at k z.router z.port z.vc) (sym to) ∙ x.descent.after_is) y.descent.after_is in
    λ z. NotRisingTo (from z) (to z) (before z) (after z)

one_say : (routes : Routes) (k : Ranking) (f h : RankFault) → IsGrid routes.grid → CheckSays routes k f → CheckSays routes k h → f ≡ h
unfolding fault_of_step
one_say routes k f h grid (falls {e = e} {p = p} {v = v} {a = a} {b = b} is full x) (falls {e = o} {p = q} {v = w} {a = c} {b = d} other more y) =
    is ∙ one_fall routes k (step_of e p v) (step_of o q w) a b c d grid x y ∙ sym other
one_say routes k f h grid (falls is full x) (bare other some y) = absurd (some full)
one_say routes k f h grid (falls is full x) (descends other some escapes y) = absurd (some full)
one_say routes k f h grid (bare is some x) (falls other full y) = absurd (some full)
one_say routes k f h grid (bare {e = e} is some x) (bare {e = o} other more y) = is ∙ ap NoEscape (one_bare routes k e o x y) ∙ sym other
one_say routes k f h grid (bare {e = e} is some x) (descends other more escapes y) = absurd (escapes e x.bare)
one_say routes k f h grid (descends is some escapes x) (falls other full y) = absurd (some full)
one_say routes k f h grid (descends is some escapes x) (bare {e = e} other more y) = absurd (escapes e y.bare)
one_say routes k f h grid (descends {e = e} {o = o} {a = a} {b = b} is some escapes x) (descends {e = i} {o = j} {a = c} {b = d} other more others y) =
    is ∙ one_descent routes k e o i j a b c d x y ∙ sym other

pub one-check-fault : (routes : Routes) (k : Ranking) (f h : RankFault) → IsGrid routes.grid → f ≢ Memory → h ≢ Memory → IsFaultOfCheck routes k f → IsFaultOfCheck routes k h → f ≡ h
one-check-fault routes k f h grid p q a b = one_say routes k f h grid (check_says routes k f p a) (check_says routes k h q b)
