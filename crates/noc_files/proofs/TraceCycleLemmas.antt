-- What a trace keeps of the cycle before, and the lines that follow from it.
use Rattle.std.proofs.Common.{◌≡◌, ◌∙◌, ℕ, zero, suc, ◌+◌, ◌-◌, ◌*◌, ◌<◌, ◌≤◌, Bool, true, false, List, [], ◌∷◌, length, map, option_map, set, Option, Some, None, refl, ap, ap₂, sym, subst, arith, add-one, get_or, replicate, ◌++◌, add-zero, append-nil, flat_map}
use Rattle.std.specs.Prelude.{◌||◌, nat_lt, option_and_then, slice_get, unwrap_or, if◌then◌else◌}
use Rattle.std.specs.List.{list_any}
use Rattle.std.specs.Option.{IfSome}
use Rattle.std.proofs.lemmas.Bool.{le-ltb, lt-ltb}
use Rattle.std.proofs.lemmas.List.{get_or-replicate, length-replicate}
use Rattle.std.proofs.lemmas.List.Folds.{list_any-append}
use Rattle.std.proofs.lemmas.Option.{slice_get-get_or, slice_get-map, slice_get_past, slice_get_within}
use Rattle.noc_topo.proofs.ListLemmas.{length-tabulate}
use Rattle.noc_topo.specs.Shape.{Grid, nodes, ports}
use Rattle.noc_topo.specs.Lists.{below}
use Rattle.noc_packet.specs.Set.{has_bit}
use Rattle.noc_route.specs.Routes.{Routes}
use Rattle.noc_route.proofs.EntryLemmas.{flat-below}
use Rattle.noc_view.specs.Found.{empty_finding}
use Rattle.noc_view.specs.declared.finding.Finding.{Finding}
use Rattle.noc_theory.specs.Lockstep.{findings_before, findings_in_cycle, finding_in}
use Rattle.noc_theory.specs.Network.{Run, Setup, arriving, frozen_at, size}
use Rattle.noc_files.specs.Channels.{is_input, lines_of_port, over_router}
use Rattle.noc_files.specs.Trace.{HaveChannels, cycle_text, has_below, is_same, kept_at, kept_line, line_if_new, line_if_wanted, member_text, nothing_found, over_traced, traced_finding, told_at, told_before, traced_line}
use Rattle.noc_files.specs.declared.trace.Traced.{Traced}
use Rattle.noc_files.proofs.BelowLemmas.{below_more, each_more, each_same}
use Rattle.noc_files.proofs.ListLemmas.{slice_get-set_other, slice_get-set_same}

-- ---- lists

-- what is seen of a list in which one element was set
module _ {V X : Type 0} (f : V → X) (xs : List V) (i : ℕ) (v : V) where
  pub seen_here : i < length xs → slice_get (map f (set xs i v)) i ≡ Some (f v)
  seen_here l = slice_get-map f (set xs i v) i ∙ ap (option_map f) (slice_get-set_same xs i v l)

  pub seen_there : (k : ℕ) → (k ≡ i → ⊥) → slice_get (map f (set xs i v)) k ≡ slice_get (map f xs) k
  seen_there k other = slice_get-map f (set xs i v) k ∙ ap (option_map f) (slice_get-set_other xs i k v other) ∙ sym (slice_get-map f xs k)

  pub seen_before : i < length xs → slice_get (map f xs) i ≡ Some (f (get_or xs i v))
  seen_before l = slice_get-map f xs i ∙ ap (option_map f) (slice_get-get_or xs i v l)

-- ---- the members of a set

pub has_none : (set : ℕ) → has_below set 0 ≡ false
unfolding below
has_none set = refl

pub has_more : (set k : ℕ) → has_below set (k + 1) ≡ (has_below set k || has_bit set k)
has_more set k = ap (list_any (has_bit set)) (below_more k) ∙ list_any-append (has_bit set) (below k) (k ∷ []) ∙ ap (λ b. has_below set k || b) (or_false (has_bit set k))
  where
    or_false : (b : Bool) → (b || false) ≡ b
    or_false true = refl
    or_false false = refl

-- ---- what is said of channels alike is alike

module _ (relation : Routes) (f h : ℕ → ℕ → ℕ → List ℕ) where
  -- what is said of each channel of a router is alike
  abbrev AreSame : ℕ → Type 0
  AreSame r = (port vc : ℕ) → port < ports relation.grid → vc < relation.vcs → f r port vc ≡ h r port vc

  router_same : (r : ℕ) → AreSame r → over_router relation r (f r) ≡ over_router relation r (h r)
  router_same r same =
      each_same (lines_of_port relation.grid relation.vcs r (f r)) (lines_of_port relation.grid relation.vcs r (h r)) (ports relation.grid)
      (λ port p. ap (λ (t : List ℕ). if is_input relation.grid r port then t else []) (each_same (f r port) (h r port) relation.vcs (λ vc v. same port vc p v)))

  pub traced_same : (router : Option ℕ) → IfSome router (λ r. r < nodes relation.grid) → ((r : ℕ) → r < nodes relation.grid → AreSame r) → over_traced relation router f ≡ over_traced relation router h
  traced_same None known same = each_same (λ r. over_router relation r (f r)) (λ r. over_router relation r (h r)) (nodes relation.grid) (λ r l. router_same r (same r l))
  traced_same (Some r) known same = router_same r (same r known)

-- ---- what is kept of the cycle before

-- these keep what the routers found in the cycle before cycle n, in a trace of changes; the trace
-- begins with cycle `first`
pub record IsKept (net : Setup) (traced : Traced) (first n : ℕ) (lists : List (List Finding)) : Type 0 where
  pub many : length lists ≡ (if traced.changes then nodes net.relation.grid else 0)
  pub long : HaveChannels (size net) lists
  pub said : (r i : ℕ) → r < nodes net.relation.grid → i < size net → option_and_then (traced_finding traced.packet) (kept_at lists r i) ≡ told_before net traced first n r i

-- there are no more of them than routers
pub few_kept : (net : Setup) (traced : Traced) (first n : ℕ) (lists : List (List Finding)) → IsKept net traced first n lists → length lists ≤ nodes net.relation.grid
few_kept net traced first n lists kept = few traced.changes kept.many
  where
    few : (b : Bool) → length lists ≡ (if b then nodes net.relation.grid else 0) → length lists ≤ nodes net.relation.grid
    few true many = omega (arith, many)
    few false many = omega (arith, many)

pub length-findings : (net : Setup) (n r : ℕ) → length (findings_in_cycle net n r) ≡ size net
length-findings net n r = length-tabulate (size net) (λ i. finding_in net (frozen_at net n) r i (arriving net r i))

pub length-before : (net : Setup) (n r : ℕ) → 1 ≤ n → length (findings_before net n r) ≡ size net
length-before net zero r some = absurd (omega (arith, some))
length-before net (suc n) r some = length-findings net n r

pub findings-after : (net : Setup) (n r : ℕ) → findings_before net (n + 1) r ≡ findings_in_cycle net n r
findings-after net n r = ap (λ m. findings_before net m r) (add-one n)

slice_get-replicate : {X : Type 0} (n i : ℕ) (x : X) → i < n → slice_get (replicate n x) i ≡ Some x
slice_get-replicate n i x l = slice_get-get_or (replicate n x) i x (omega (arith, length-replicate n x)) ∙ ap Some (get_or-replicate n i x x l)

never_before : (n : ℕ) → nat_lt n n ≡ false
never_before n = le-ltb n n (omega arith)

nothing_before : (net : Setup) (traced : Traced) (first r i : ℕ) → told_before net traced first first r i ≡ None
nothing_before net traced first r i = by traced.changes refl
  where
    by : (b : Bool) → traced.changes ≡ b → told_before net traced first first r i ≡ None
    by true e = rw (e, never_before first) refl
    by false e = rw e refl

nothing_kept : (net : Setup) (packet : Option ℕ) (b : Bool) (r i : ℕ) → r < nodes net.relation.grid → i < size net → option_and_then (traced_finding packet) (kept_at (nothing_found net b) r i) ≡ None
nothing_kept net packet false r i l m = refl
nothing_kept net packet true r i l m =
    let one = replicate (size net) empty_finding in
    ap (λ (o : Option (List Finding)). option_and_then (traced_finding packet) (option_and_then (λ xs. slice_get xs i) o)) (slice_get-replicate (nodes net.relation.grid) r one l)
    ∙ ap (option_and_then (traced_finding packet)) (slice_get-replicate (size net) i empty_finding m)

many_lists : (net : Setup) (b : Bool) → length (nothing_found net b) ≡ (if b then nodes net.relation.grid else 0)
many_lists net true = length-replicate (nodes net.relation.grid) (replicate (size net) empty_finding)
many_lists net false = refl

long_lists : (net : Setup) (b : Bool) → HaveChannels (size net) (nothing_found net b)
long_lists net false r one e = cc
long_lists net true r one e =
    let empty = replicate (size net) empty_finding in
    let inside = slice_get_within (replicate (nodes net.relation.grid) empty) r one e in
    let both : Some one ≡ Some empty = sym e ∙ slice_get-replicate (nodes net.relation.grid) r empty (omega (arith, inside, length-replicate (nodes net.relation.grid) empty)) in
    let same : one ≡ empty = cc in
    ap length same ∙ length-replicate (size net) empty_finding

-- before the first cycle of a trace nothing was found
pub opening_kept : (net : Setup) (traced : Traced) (first : ℕ) (lists : List (List Finding)) → lists ≡ nothing_found net traced.changes → IsKept net traced first first lists
opening_kept net traced first lists same =
    subst (IsKept net traced first first) (sym same) (record {
      many = many_lists net traced.changes;
      long = long_lists net traced.changes;
      said = λ r i l m. nothing_kept net traced.packet traced.changes r i l m ∙ sym (nothing_before net traced first r i);
    })

-- a trace of changes tells what it told in the cycle before
told_then : (net : Setup) (traced : Traced) (first n r i : ℕ) → traced.changes ≡ true → first ≤ n → told_before net traced first (n + 1) r i ≡ told_at net traced n r i
told_then net traced first n r i changes begun =
    let later : nat_lt first (n + 1) ≡ true = lt-ltb first (n + 1) (omega (arith, begun)) in
    let back : n + 1 - 1 ≡ n = omega arith in
    rw (changes, later) (ap (λ k. told_at net traced k r i) back)

-- once the routers have found what they find in cycle n, and it is kept
module _ (net : Setup) (traced : Traced) (first n : ℕ) (old new : List (List Finding)) (begun : first ≤ n) (kept : IsKept net traced first n old) (same : length new ≡ length old)
    (are : (r : ℕ) → r < length old → slice_get new r ≡ Some (findings_before net (n + 1) r)) where
  found : (r : ℕ) → r < length old → slice_get new r ≡ Some (findings_in_cycle net n r)
  found r l = are r l ∙ ap Some (findings-after net n r)

  long_next : HaveChannels (size net) new
  long_next r one e =
      let inside = slice_get_within new r one e in
      let both : Some one ≡ Some (findings_in_cycle net n r) = sym e ∙ found r (omega (arith, inside, same)) in
      let is : one ≡ findings_in_cycle net n r = cc in
      ap length is ∙ length-findings net n r

  said_next : (r i : ℕ) → r < nodes net.relation.grid → i < size net → option_and_then (traced_finding traced.packet) (kept_at new r i) ≡ told_before net traced first (n + 1) r i
  said_next r i l m = by traced.changes refl
    where
      by : (b : Bool) → traced.changes ≡ b → option_and_then (traced_finding traced.packet) (kept_at new r i) ≡ told_before net traced first (n + 1) r i
      by true changes =
          let many : length old ≡ nodes net.relation.grid = kept.many ∙ ap (λ (b : Bool). if b then nodes net.relation.grid else 0) changes in
          ap (λ (o : Option (List Finding)). option_and_then (traced_finding traced.packet) (option_and_then (λ xs. slice_get xs i) o)) (found r (omega (arith, l, many)))
          ∙ sym (told_then net traced first n r i changes begun)
      by false none =
          let many : length old ≡ 0 = kept.many ∙ ap (λ (b : Bool). if b then nodes net.relation.grid else 0) none in
          ap (λ (o : Option (List Finding)). option_and_then (traced_finding traced.packet) (option_and_then (λ xs. slice_get xs i) o)) (slice_get_past new r (omega (arith, same, many)))
          ∙ sym (unsaid none)
        where
          unsaid : traced.changes ≡ false → told_before net traced first (n + 1) r i ≡ None
          unsaid e = rw e refl

  pub next_kept : IsKept net traced first (n + 1) new
  next_kept = record { many = same ∙ kept.many; long = long_next; said = said_next }

-- ---- the lines of a cycle

-- the line against what is kept is that of the trace
pub kept_is : (u : Run) (traced : Traced) (lists : List (List Finding)) (first n r port vc : ℕ) → u.count ≡ n + 1 → IsKept u.net traced first n lists → r < nodes u.net.relation.grid
    → port * u.net.relation.vcs + vc < size u.net → kept_line u traced lists n r port vc ≡ traced_line u.net traced first n r port vc
kept_is u traced lists first n r port vc count kept known inside =
    let i = port * u.net.relation.vcs + vc in
    ap₂ (λ (before now : Option Finding). line_if_new u.net traced.verdicts n r port vc before now) (kept.said r i known inside)
    (ap (λ k. option_and_then (traced_finding traced.packet) (slice_get (findings_before u.net k r) i)) count
    ∙ ap (λ (xs : List Finding). option_and_then (traced_finding traced.packet) (slice_get xs i)) (findings-after u.net n r))

-- the lines of the last cycle of a run are those of that cycle of the trace
pub cycle_is : (u : Run) (traced : Traced) (lists : List (List Finding)) (first n : ℕ) → u.count ≡ n + 1 → IsKept u.net traced first n lists
    → IfSome traced.router (λ r. r < nodes u.net.relation.grid) → over_traced u.net.relation traced.router (kept_line u traced lists n) ≡ cycle_text u.net traced first n
cycle_is u traced lists first n count kept known =
    traced_same u.net.relation (kept_line u traced lists n) (traced_line u.net traced first n) traced.router known
    (λ r l port vc p v. kept_is u traced lists first n r port vc count kept l (flat-below port (ports u.net.relation.grid) vc u.net.relation.vcs p v))

-- the lines of the last cycle of a run, where the run has the network and the trace
-- is of what it was at first
pub cycle_written : (u : Run) (net : Setup) (now traced : Traced) (lists : List (List Finding)) (first n at : ℕ) → u.net ≡ net → now ≡ traced → at ≡ n → u.count ≡ n + 1 → IsKept net traced first n lists
    → IfSome traced.router (λ r. r < nodes net.relation.grid) → over_traced u.net.relation now.router (kept_line u now lists at) ≡ cycle_text net traced first n
cycle_written u net now traced lists first n at same as_before numbered count kept known =
    ap (λ (t : Traced). over_traced u.net.relation t.router (kept_line u t lists at)) as_before ∙ ap (λ k. over_traced u.net.relation traced.router (kept_line u traced lists k)) numbered
    ∙ cycle_is u traced lists first n count (subst (λ (z : Setup). IsKept z traced first n lists) (sym same) kept)
    (subst (λ (z : Setup). IfSome traced.router (λ r. r < nodes z.relation.grid)) (sym same) known)
    ∙ ap (λ (z : Setup). cycle_text z traced first n) same

-- the line of a channel of which another thing is told, or none where lines with
-- its verdict are not written
pub line_is : (u : Run) (traced : Traced) (lists : List (List Finding)) (n r port vc i : ℕ) (before now : Option Finding) (f : Finding) → i ≡ port * u.net.relation.vcs + vc
    → before ≡ option_and_then (traced_finding traced.packet) (kept_at lists r i) → now ≡ option_and_then (traced_finding traced.packet) (slice_get (findings_before u.net u.count r) i)
    → is_same before now ≡ false → f ≡ unwrap_or now empty_finding → line_if_wanted u.net traced.verdicts n r port vc f ≡ kept_line u traced lists n r port vc
line_is u traced lists n r port vc i before now f place was is other shown =
    ap (line_if_wanted u.net traced.verdicts n r port vc) shown ∙ sym (new_line before now other) ∙ ap₂ (λ (b a : Option Finding). line_if_new u.net traced.verdicts n r port vc b a) was is
    ∙ ap (λ k. line_if_new u.net traced.verdicts n r port vc (option_and_then (traced_finding traced.packet) (kept_at lists r k)) (option_and_then (traced_finding traced.packet) (slice_get (findings_before u.net u.count r) k))) place
  where
    new_line : (b a : Option Finding) → is_same b a ≡ false → line_if_new u.net traced.verdicts n r port vc b a ≡ line_if_wanted u.net traced.verdicts n r port vc (unwrap_or a empty_finding)
    new_line b a e = ap (λ same. if same then [] else line_if_wanted u.net traced.verdicts n r port vc (unwrap_or a empty_finding)) e

-- ---- indices that are passed by

or_false : (b : Bool) → (b || false) ≡ b
or_false true = refl
or_false false = refl

or_true : (b : Bool) → (b || true) ≡ true
or_true true = refl
or_true false = refl

has_as_many : (set m d : ℕ) → ((k : ℕ) → m ≤ k → k < m + d → has_bit set k ≡ false) → has_below set (m + d) ≡ has_below set m
has_as_many set m zero none = ap (has_below set) (add-zero m)
has_as_many set m (suc d) none =
    let next : m + suc d ≡ m + d + 1 = omega arith in
    ap (has_below set) next ∙ has_more set (m + d) ∙ ap (λ b. has_below set (m + d) || b) (none (m + d) (omega arith) (omega arith)) ∙ or_false (has_below set (m + d))
    ∙ has_as_many set m d (λ k low high. none k low (omega (arith, high)))

says_as_much : (text : ℕ → List ℕ) (m d : ℕ) → ((k : ℕ) → m ≤ k → k < m + d → text k ≡ []) → flat_map text (below (m + d)) ≡ flat_map text (below m)
says_as_much text m zero none = ap (λ n. flat_map text (below n)) (add-zero m)
says_as_much text m (suc d) none =
    let next : m + suc d ≡ m + d + 1 = omega arith in
    ap (λ n. flat_map text (below n)) next ∙ each_more text (m + d) ∙ ap (λ (t : List ℕ). flat_map text (below (m + d)) ++ t) (none (m + d) (omega arith) (omega arith))
    ∙ append-nil (flat_map text (below (m + d))) ∙ says_as_much text m d (λ k low high. none k low (omega (arith, high)))

module _ (g : Grid) (vcs set : ℕ) where
  -- where an index is no member, nothing is said of it
  no_member : (k : ℕ) → has_bit set k ≡ false → member_text g vcs set k ≡ []
  no_member k other = rw other refl

  pub passed_some : (m n : ℕ) → m ≤ n → ((k : ℕ) → m ≤ k → k < n → has_bit set k ≡ false) → has_below set n ≡ has_below set m
  passed_some m n order none =
      let whole : n ≡ m + (n - m) = omega (arith, order) in
      ap (has_below set) whole ∙ has_as_many set m (n - m) (λ k low high. none k low (omega (arith, high, order)))

  pub passed_text : (m n : ℕ) → m ≤ n → ((k : ℕ) → m ≤ k → k < n → has_bit set k ≡ false) → flat_map (member_text g vcs set) (below n) ≡ flat_map (member_text g vcs set) (below m)
  passed_text m n order none =
      let whole : n ≡ m + (n - m) = omega (arith, order) in
      ap (λ j. flat_map (member_text g vcs set) (below j)) whole
      ∙ says_as_much (member_text g vcs set) m (n - m) (λ k low high. no_member k (none k low (omega (arith, high, order))))

  -- once a member is on the page, it is so up to the next one
  pub member_more : (i n : ℕ) → has_bit set i ≡ true → i + 1 ≤ n → ((k : ℕ) → i + 1 ≤ k → k < n → has_bit set k ≡ false) → has_below set n ≡ true
  member_more i n member order none = passed_some (i + 1) n order none ∙ has_more set i ∙ ap (λ m. has_below set i || m) member ∙ or_true (has_below set i)
