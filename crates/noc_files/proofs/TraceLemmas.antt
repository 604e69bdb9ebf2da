-- What the lines of a trace say, beside those of the other reports.
use Rattle.std.proofs.Common.{◌≡◌, ◌∙◌, ℕ, ◌+◌, ◌*◌, ◌<◌, true, List, [], ◌++◌, Option, Some, None, refl, ap, sym, arith, append_assoc}
use Rattle.std.specs.Prelude.{◌==◌, ◌&&◌, count_by, nat_eq, option_and_then, slice_get, if◌then◌else◌}
use Rattle.std.proofs.lemmas.Bool.{and_from, and_parts, eq-eqb, eqb-true, false≢true}
use Rattle.std.proofs.lemmas.Option.{slice_get-get_or}
use Rattle.noc_topo.proofs.ListLemmas.{get_or-tabulate, length-tabulate}
use Rattle.noc_topo.specs.Shape.{ports}
use Rattle.noc_topo.specs.Lists.{below, tabulate}
use Rattle.noc_route.specs.Channel.{Channel}
use Rattle.noc_route.specs.Routes.{Routes}
use Rattle.noc_route.proofs.EntryLemmas.{flat-below}
use Rattle.noc_view.specs.Verdict.{column}
use Rattle.noc_view.specs.declared.finding.Finding.{Finding}
use Rattle.noc_view.specs.declared.verdict.Verdict.{Verdict}
use Rattle.noc_view.specs.declared.verdict.Verdict.TheVariants.{Empty, Granted, LostChannel, LostInput, LostSwitch, Moved, NoCredit, NoFlit, NoIdleChannel, Routed}
use Rattle.noc_theory.specs.Lockstep.{finding_in, findings_in_cycle}
use Rattle.noc_theory.specs.Network.{Run, Setup, arriving, frozen_at, size, verdict_in_cycle}
use Rattle.noc_files.specs.Findings.{found_line, line_if_found, out_name, verdict_text}
use Rattle.noc_files.specs.Stalls.{channel_counts}
use Rattle.noc_files.specs.Trace.{finds_empty, is_same, is_same_channel, is_same_number, line_if_new, permitted_text, permitted_to, said_by_both, traced_finding, told_at, told_counts, told_verdict, trace_line, traced_line, when_text, whole}
use Rattle.noc_files.specs.Writing.{comma, line_end}

-- ---- the line of a channel

pub explained : (relation : Routes) (findings : List Finding) (port vc : ℕ) (f : Finding) → slice_get findings (port * relation.vcs + vc) ≡ Some f
    → found_line relation findings port vc ≡ said_by_both relation.grid port vc f ++ line_end
explained relation findings port vc f found = ap (line_if_found relation.grid port vc) found

trace_parts : (net : Setup) (n r port vc : ℕ) (f : Finding)
    → trace_line net n r port vc f ≡ when_text n r ++ said_by_both net.relation.grid port vc f ++ comma ++ permitted_text net.relation (permitted_to net r port vc f)
trace_parts net n r port vc f =
    let g = net.relation.grid in
    let when = when_text n r in
    let verdict = verdict_text g port vc f in
    let out = out_name g f.out in
    let permitted = permitted_text net.relation (permitted_to net r port vc f) in
    ap (λ (t : List ℕ). when ++ (verdict ++ t)) (append_assoc out comma permitted)
    ∙ ap (λ (t : List ℕ). when ++ t) (sym (append_assoc verdict out (comma ++ permitted))) ∙ sym (append_assoc when (verdict ++ out) (comma ++ permitted))
    ∙ sym (append_assoc (when ++ (verdict ++ out)) comma permitted)

-- where all is traced, all is told but of empty channels
told_whole : (net : Setup) (n r port vc : ℕ) (f : Finding) (v : Verdict) → f.verdict ≡ v
    → line_if_new net None n r port vc None (traced_finding None f) ≡ (if finds_empty f.verdict then [] else trace_line net n r port vc f)
told_whole net n r port vc f Empty e = rw e refl
told_whole net n r port vc f Routed e = rw e refl
told_whole net n r port vc f Granted e = rw e refl
told_whole net n r port vc f Moved e = rw e refl
told_whole net n r port vc f NoFlit e = rw e refl
told_whole net n r port vc f NoIdleChannel e = rw e refl
told_whole net n r port vc f LostChannel e = rw e refl
told_whole net n r port vc f NoCredit e = rw e refl
told_whole net n r port vc f LostInput e = rw e refl
told_whole net n r port vc f LostSwitch e = rw e refl

pub traced : (net : Setup) (first n r port vc : ℕ) (f : Finding) → slice_get (findings_in_cycle net n r) (port * net.relation.vcs + vc) ≡ Some f
    → traced_line net whole first n r port vc
    ≡ (if finds_empty f.verdict then [] else when_text n r ++ said_by_both net.relation.grid port vc f ++ comma ++ permitted_text net.relation (permitted_to net r port vc f))
traced net first n r port vc f found =
    ap (λ (o : Option Finding). line_if_new net None n r port vc None (option_and_then (traced_finding None) o)) found ∙ told_whole net n r port vc f f.verdict refl
    ∙ ap (λ (t : List ℕ). if finds_empty f.verdict then [] else t) (trace_parts net n r port vc f)

-- ---- counts

whole_verdict : (f : Finding) (v : Verdict) → f.verdict ≡ v → told_verdict (traced_finding None f) ≡ v
whole_verdict f Empty e = rw e refl
whole_verdict f Routed e = rw e refl
whole_verdict f Granted e = rw e refl
whole_verdict f Moved e = rw e refl
whole_verdict f NoFlit e = rw e refl
whole_verdict f NoIdleChannel e = rw e refl
whole_verdict f LostChannel e = rw e refl
whole_verdict f NoCredit e = rw e refl
whole_verdict f LostInput e = rw e refl
whole_verdict f LostSwitch e = rw e refl

found_verdict : (net : Setup) (n r i : ℕ) (c : Option Channel) → arriving net r i ≡ c → (finding_in net (frozen_at net n) r i c).verdict ≡ verdict_in_cycle net n r i
found_verdict net n r i None e = rw e refl
found_verdict net n r i (Some c) e = rw e refl

-- the verdict that is told of a channel is the one that it has
verdict_told : (net : Setup) (n r i : ℕ) → i < size net → told_verdict (told_at net whole n r i) ≡ verdict_in_cycle net n r i
verdict_told net n r i l =
    let f : ℕ → Finding = λ j. finding_in net (frozen_at net n) r j (arriving net r j) in
    let found : slice_get (findings_in_cycle net n r) i ≡ Some (f i) =
    slice_get-get_or (tabulate (size net) f) i (f i) (omega (arith, l, length-tabulate (size net) f)) ∙ ap Some (get_or-tabulate (size net) i f (f i) l) in
    ap (λ (o : Option Finding). told_verdict (option_and_then (traced_finding None) o)) found ∙ whole_verdict (f i) (f i).verdict refl ∙ found_verdict net n r i (arriving net r i) refl

pub adds_up : (u : Run) (r port vc : ℕ) → port < ports u.net.relation.grid → vc < u.net.relation.vcs → told_counts u r (port * u.net.relation.vcs + vc) ≡ channel_counts u r port vc
unfolding channel_counts
adds_up u r port vc p v =
    let i = port * u.net.relation.vcs + vc in
    let same : (n : ℕ) → told_verdict (told_at u.net whole n r i) ≡ verdict_in_cycle u.net n r i = λ n. verdict_told u.net n r i (flat-below port (ports u.net.relation.grid) vc u.net.relation.vcs p v) in
    λ j. tabulate 10 (λ k. count_by (λ n. nat_eq (column (same n j)) k) (below u.count))

-- ---- whether the same is told

same_number : (a b : Option ℕ) → is_same_number a b ≡ true → a ≡ b
same_number None None e = refl
same_number (Some a) (Some b) e = ap Some (eqb-true a b e)
same_number None (Some b) e = absurd (false≢true e)
same_number (Some a) None e = absurd (false≢true e)

same_channel : (a b : Option (ℕ × ℕ)) → is_same_channel a b ≡ true → a ≡ b
same_channel None None e = refl
same_channel (Some (a, v)) (Some (b, w)) e =
    let parts = and_parts (a == b) (v == w) e in
    let port = eqb-true a b parts.0 in
    let vc = eqb-true v w parts.1 in
    λ i. Some (port i, vc i)
same_channel None (Some b) e = absurd (false≢true e)
same_channel (Some a) None e = absurd (false≢true e)

-- the verdict of a column of the stall report
of_column : ℕ → Verdict
of_column n =
    if n == 0 then Empty
    else (if n == 1 then Routed
    else (if n == 2 then Granted
    else (if n == 3 then Moved
    else (if n == 4 then NoFlit
    else (if n == 5 then NoIdleChannel
    else (if n == 6 then LostChannel
    else (if n == 7 then NoCredit
    else (if n == 8 then LostInput
    else LostSwitch))))))))

column_back : (v : Verdict) → of_column (column v) ≡ v
unfolding of_column
column_back Empty = refl
column_back Routed = refl
column_back Granted = refl
column_back Moved = refl
column_back NoFlit = refl
column_back NoIdleChannel = refl
column_back LostChannel = refl
column_back NoCredit = refl
column_back LostInput = refl
column_back LostSwitch = refl

same_verdict : (v w : Verdict) → (column v == column w) ≡ true → v ≡ w
same_verdict v w e = sym (column_back v) ∙ ap of_column (eqb-true (column v) (column w) e) ∙ column_back w

pub same_is : (f h : Option Finding) → is_same f h ≡ true → f ≡ h
same_is None None e = refl
same_is (Some f) (Some h) e =
    let last = and_parts (column f.verdict == column h.verdict && is_same_number f.packet h.packet) (is_same_channel f.out h.out) e in
    let first = and_parts (column f.verdict == column h.verdict) (is_same_number f.packet h.packet) last.0 in
    let verdict = same_verdict f.verdict h.verdict first.0 in
    let packet = same_number f.packet h.packet first.1 in
    let out = same_channel f.out h.out last.1 in
    λ i. Some (record { verdict = verdict i; packet = packet i; out = out i })
same_is None (Some h) e = absurd (false≢true e)
same_is (Some f) None e = absurd (false≢true e)

number_itself : (a : Option ℕ) → is_same_number a a ≡ true
number_itself None = refl
number_itself (Some a) = eq-eqb a a refl

channel_itself : (a : Option (ℕ × ℕ)) → is_same_channel a a ≡ true
channel_itself None = refl
channel_itself (Some (port, vc)) = and_from (port == port) (vc == vc) (eq-eqb port port refl) (eq-eqb vc vc refl)

pub is_itself : (f : Option Finding) → is_same f f ≡ true
is_itself None = refl
is_itself (Some f) =
    and_from (column f.verdict == column f.verdict && is_same_number f.packet f.packet) (is_same_channel f.out f.out)
    (and_from (column f.verdict == column f.verdict) (is_same_number f.packet f.packet) (eq-eqb (column f.verdict) (column f.verdict) refl) (number_itself f.packet)) (channel_itself f.out)
