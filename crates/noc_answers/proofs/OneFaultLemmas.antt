-- A request that asks for a text has no fault, and one that does not has one first fault.
use Rattle.std.proofs.Common.{◌≡◌, ◌≢◌, ℕ, ◌-◌, ◌<◌, ◌≤◌, Bool, true, false, List, [], length, drop, Option, Some, None, Ok, Err, refl, sym, subst, ap, ◌∙◌, arith, inl, inr}
use Rattle.std.specs.Prelude.{◌==◌, ◌||◌, slice_index, if◌then◌else◌}
use Rattle.std.specs.Option.{IfSome, MatchOption}
use Rattle.std.proofs.lemmas.List.{drop_all}
use Rattle.std.proofs.lemmas.Bool.{cases_lt, false≢true}
use Rattle.noc_topo.specs.Shape.{Grid, IsGrid}
use Rattle.noc_route.specs.Routes.{Routes}
use Rattle.noc_route.specs.declared.rule.Rule.{Rule}
use Rattle.noc_net.specs.Faults.{fault_of}
use Rattle.noc_theory.specs.Network.{Setup}
use Rattle.noc_rank.specs.Formulas.{IsFaultOfFormula}
use Rattle.noc_route.specs.Ranks.{Ranking}
use Rattle.noc_rank.specs.Faults.{IsFaultOfCheck}
use Rattle.noc_rank.specs.Rows.{IsFaultOfRows, IsRankingOf}
use Rattle.noc_rank.specs.declared.fault.RankFault.{RankFault}
use Rattle.noc_rank.specs.declared.fault.RankFault.TheVariants as rank
use Rattle.noc_rank.specs.declared.rows.RankRow.{RankRow}
use Rattle.noc_files.specs.Configuration.{Settings}
use Rattle.noc_bytes.specs.Joined.{SplitsAt, line_at, line_len}
use Rattle.noc_files.specs.Ranks.{ranks_of}
use Rattle.noc_bytes.specs.declared.input_fault.InputFault.{InputFault}
use Rattle.noc_requests.specs.Asked.{Asked, TextValue, ReadsAs, as_files, as_joined, is_joined, owned_text, read_by}
use Rattle.noc_requests.specs.Answer.{Asks, AsksFor, a_report, findings, traces, accepted, ranks, TextsFault, in_settings, in_formula, in_ranks, in_packets, no_packet, runs, FirstFault, unread, unsplit, in_texts}
use Rattle.noc_requests.specs.Check.{Accepts, AsksForChecked, HasRanking, RanksFault, bad_file, bad_rows, bad_ranks, checked_by, checked_ranks}
use Rattle.noc_requests.specs.Formula.{HasRanks, IsFormulaFault}
use Rattle.noc_net.specs.declared.net_fault.NetFault.{NetFault}
use Rattle.noc_net.specs.declared.net_fault.NetFault.TheVariants as net
use Rattle.noc_packet.specs.declared.packet.Packet.{Packet}
use Rattle.noc_requests.specs.Settings.{AsksForRelation}
use Rattle.noc_route.specs.Names.{rule_named}
use Rattle.noc_faults.specs.Status.{is_memory}
use Rattle.noc_faults.specs.declared.fault.Fault.{Fault}
use Rattle.noc_faults.specs.declared.fault.Fault.TheVariants as fault
use Rattle.noc_requests.specs.Options.{packet_option_fault}
use Rattle.noc_faults.specs.declared.fault.OptionFault.{OptionFault}
use Rattle.noc_commands.specs.declared.command.Command.{Command}
use Rattle.noc_commands.specs.declared.command.Command.TheVariants as command
use Rattle.noc_requests.specs.declared.request.Request.{Request}
use Rattle.noc_faults.specs.declared.status.Status.{Status}
use Rattle.noc_requests.specs.Run.{IsNetworkOf, IsUnmade, Opens, PacketsFault, bad_traffic, bad_network}
use Rattle.noc_answers.proofs.MemoryLemmas.{network_not_memory, ranks_not_memory, traffic_not_memory}
use Rattle.noc_answers.proofs.OneSettingsLemmas.{one_relation_asked, no_settings_fault, one_settings_fault}
use Rattle.noc_answers.proofs.OneAnswerLemmas.{kind, reports, explains, checks, ranked, is_trace, has_packet, has_no_packet, one_reading}
use Rattle.noc_answers.proofs.OneCheckLemmas.{no-check-fault, one-check-fault}
use Rattle.noc_answers.proofs.OneRankingLemmas.{one-ranking, formula-fault, no-formula-fault, no-rows-fault, one-rows-fault}

not_memory : (f : RankFault) (g : Grid) → is_memory (fault.Rank f g) ≡ false → f ≢ rank.Memory
not_memory f g p e = false≢true (sym p ∙ ap (λ x. is_memory (fault.Rank x g)) e)

unchecked-ranks : (x : Command) (given : Option TextValue) → kind x ≡ 3 → checked_by x given ≡ None
unchecked-ranks command.Joined given e = absurd (omega (arith, e))
unchecked-ranks (command.Run workers report drain) given e = absurd (omega (arith, e))
unchecked-ranks (command.Explain cycle router) given e = absurd (omega (arith, e))
unchecked-ranks command.Check given e = absurd (omega (arith, e))
unchecked-ranks command.Ranks given e = refl
unchecked-ranks (command.Trace from to router packet verdicts changes) given e = absurd (omega (arith, e))

unchecked-trace : (x : Command) (given : Option TextValue) → kind x ≡ 4 → checked_by x given ≡ None
unchecked-trace command.Joined given e = absurd (omega (arith, e))
unchecked-trace (command.Run workers report drain) given e = absurd (omega (arith, e))
unchecked-trace (command.Explain cycle router) given e = absurd (omega (arith, e))
unchecked-trace (command.Trace from to router packet verdicts changes) given e = refl
unchecked-trace command.Check given e = absurd (omega (arith, e))
unchecked-trace command.Ranks given e = absurd (omega (arith, e))

still-check : (x : Command) → kind x ≡ 2 → runs x ≡ false
still-check command.Joined e = absurd (omega (arith, e))
still-check (command.Run workers report drain) e = absurd (omega (arith, e))
still-check (command.Explain cycle router) e = absurd (omega (arith, e))
still-check (command.Trace from to router packet verdicts changes) e = absurd (omega (arith, e))
still-check command.Check e = refl
still-check command.Ranks e = absurd (omega (arith, e))

still-ranks : (x : Command) → kind x ≡ 3 → runs x ≡ false
still-ranks command.Joined e = absurd (omega (arith, e))
still-ranks (command.Run workers report drain) e = absurd (omega (arith, e))
still-ranks (command.Explain cycle router) e = absurd (omega (arith, e))
still-ranks (command.Trace from to router packet verdicts changes) e = absurd (omega (arith, e))
still-ranks command.Check e = absurd (omega (arith, e))
still-ranks command.Ranks e = refl

-- ---- ranks of a rank file

-- a rank file gives one ranking
one_given : (routes : Routes) (text : TextValue) (k j : Ranking) → HasRanking routes text k → HasRanking routes text j → k ≡ j
one_given routes text k j h u =
    let both : Ok u.rows ≡ Ok h.rows = sym u.read ∙ h.read in
    let same : u.rows ≡ h.rows = cc in
    let P : List RankRow → Type 0 = λ z. IsRankingOf routes.grid routes.vcs z j in
    one-ranking routes.grid routes.vcs h.rows k j h.given (subst P same u.given)

-- rows with a fault give no ranking
rows_first : (routes : Routes) (text : TextValue) (rows : List RankRow) (f : RankFault) (k : Ranking) → is_memory (fault.Rank f routes.grid) ≡ false → read_by (ranks_of routes.grid) text ≡ Ok rows
    → IsFaultOfRows routes.grid routes.vcs rows f → HasRanking routes text k → ⊥
rows_first routes text rows f k p e bad given =
    let both : Ok rows ≡ Ok given.rows = sym e ∙ given.read in
    let same : rows ≡ given.rows = cc in
    let P : List RankRow → Type 0 = λ z. IsFaultOfRows routes.grid routes.vcs z f in
    no-rows-fault routes.grid routes.vcs given.rows k f (not_memory f routes.grid p) given.given (subst P same bad)

accepts_none : (routes : Routes) (text : TextValue) (f : Fault) → is_memory f ≡ false → Accepts routes text → RanksFault routes text f → ⊥
accepts_none routes text f p h (bad_file {f = i} e) =
    let never : Ok h.ranks.rows ≡ Err i = sym h.ranks.read ∙ e (ranks_not_memory i p) in
    cc never
accepts_none routes text f p h (bad_rows {rows = rows} {f = i} e bad) =
    let both : Ok rows ≡ Ok h.ranks.rows = sym e ∙ h.ranks.read in
    let same : rows ≡ h.ranks.rows = cc in
    let P : List RankRow → Type 0 = λ z. IsFaultOfRows routes.grid routes.vcs z i in
    no-rows-fault routes.grid routes.vcs h.ranks.rows h.ranking i (not_memory i routes.grid p) h.ranks.given (subst P same bad)
accepts_none routes text f p h (bad_ranks {ranking = k} {f = i} given bad) =
    let ranking : k ≡ h.ranking = one_given routes text k h.ranking given h.ranks in
    let P : Ranking → Type 0 = λ z. IsFaultOfCheck routes z i in
    no-check-fault routes h.ranking i (not_memory i routes.grid p) h.rising (subst P ranking bad)

one_ranks_fault : (routes : Routes) (text : TextValue) (f k : Fault) → IsGrid routes.grid → is_memory f ≡ false → is_memory k ≡ false → RanksFault routes text f → RanksFault routes text k → f ≡ k
one_ranks_fault routes text f k grid p q (bad_file {f = i} e) (bad_file {f = j} d) = (let both : Err i ≡ Err j = sym (e (ranks_not_memory i p)) ∙ d (ranks_not_memory j q) in cc)
one_ranks_fault routes text f k grid p q (bad_file {f = i} e) (bad_rows {rows = rows} d bad) = (let never : Err i ≡ Ok rows = sym (e (ranks_not_memory i p)) ∙ d in absurd (cc never))
one_ranks_fault routes text f k grid p q (bad_file {f = i} e) (bad_ranks given bad) = (let never : Err i ≡ Ok given.rows = sym (e (ranks_not_memory i p)) ∙ given.read in absurd (cc never))
one_ranks_fault routes text f k grid p q (bad_rows {rows = rows} d bad) (bad_file {f = i} e) = (let never : Err i ≡ Ok rows = sym (e (ranks_not_memory i q)) ∙ d in absurd (cc never))
one_ranks_fault routes text f k grid p q (bad_rows {rows = rows} {f = i} e bad) (bad_rows {rows = others} {f = j} d worse) =
    let both : Ok others ≡ Ok rows = sym d ∙ e in
    let same : others ≡ rows = cc in
    let P : List RankRow → Type 0 = λ z. IsFaultOfRows routes.grid routes.vcs z j in
    ap (λ z. fault.Rank z routes.grid) (one-rows-fault routes.grid routes.vcs rows i j (not_memory i routes.grid p) (not_memory j routes.grid q) bad (subst P same worse))
one_ranks_fault routes text f k grid p q (bad_rows {rows = rows} {f = i} e bad) (bad_ranks {ranking = j} given worse) = absurd (rows_first routes text rows i j p e bad given)
one_ranks_fault routes text f k grid p q (bad_ranks given bad) (bad_file {f = i} e) = (let never : Err i ≡ Ok given.rows = sym (e (ranks_not_memory i q)) ∙ given.read in absurd (cc never))
one_ranks_fault routes text f k grid p q (bad_ranks {ranking = j} given worse) (bad_rows {rows = rows} {f = i} e bad) = absurd (rows_first routes text rows i j q e bad given)
one_ranks_fault routes text f k grid p q (bad_ranks {ranking = m} {f = i} given bad) (bad_ranks {ranking = n} {f = j} other worse) =
    let ranking : n ≡ m = one_given routes text n m other given in
    let P : Ranking → Type 0 = λ z. IsFaultOfCheck routes z j in
    ap (λ z. fault.Rank z routes.grid) (one-check-fault routes m i j grid (not_memory i routes.grid p) (not_memory j routes.grid q) bad (subst P ranking worse))

-- ---- packets

unmade : (routes : Routes) (packets : List Packet) (f : NetFault) → f ≢ net.Memory → IsUnmade routes packets f → fault_of routes packets ≡ Some f
unmade routes packets f p (inl e) = e
unmade routes packets f p (inr m) = absurd (p m.0)

network_none : (routes : Routes) (depth : ℕ) (traffic : TextValue) (net : Setup) (f : Fault) → is_memory f ≡ false → IsNetworkOf routes depth traffic net → PacketsFault routes traffic f → ⊥
network_none routes depth traffic net f p h (bad_traffic {f = i} e) = (let never : Ok net.packets ≡ Err i = sym h.packets ∙ e (traffic_not_memory i p) in cc never)
network_none routes depth traffic net f p h (bad_network {packets = ps} {f = i} e bad) =
    let both : Ok net.packets ≡ Ok ps = sym h.packets ∙ e in
    let same : net.packets ≡ ps = cc in
    let never : None ≡ Some i = sym h.sound ∙ ap (fault_of routes) same ∙ unmade routes ps i (network_not_memory i p) bad in
    cc never

one_packets_fault : (routes : Routes) (traffic : TextValue) (f k : Fault) → is_memory f ≡ false → is_memory k ≡ false → PacketsFault routes traffic f → PacketsFault routes traffic k → f ≡ k
one_packets_fault routes traffic f k p q (bad_traffic {f = i} e) (bad_traffic {f = j} d) = (let both : Err i ≡ Err j = sym (e (traffic_not_memory i p)) ∙ d (traffic_not_memory j q) in cc)
one_packets_fault routes traffic f k p q (bad_traffic {f = i} e) (bad_network {packets = ps} d bad) = (let never : Err i ≡ Ok ps = sym (e (traffic_not_memory i p)) ∙ d in absurd (cc never))
one_packets_fault routes traffic f k p q (bad_network {packets = ps} d bad) (bad_traffic {f = i} e) = (let never : Err i ≡ Ok ps = sym (e (traffic_not_memory i q)) ∙ d in absurd (cc never))
one_packets_fault routes traffic f k p q (bad_network {packets = ps} {f = i} e bad) (bad_network {packets = qs} {f = j} d worse) =
    let both : Ok ps ≡ Ok qs = sym e ∙ d in
    let same : ps ≡ qs = cc in
    let faults : Some i ≡ Some j = sym (unmade routes ps i (network_not_memory i p) bad) ∙ ap (fault_of routes) same ∙ unmade routes qs j (network_not_memory j q) worse in
    cc

-- ---- formulas

formula_of : (s : Settings) (g : Grid) (f : RankFault) (name : Option Rule) → rule_named s.rule ≡ name → f ≢ rank.Memory → IsFormulaFault s g f → f ≡ rank.NoGenerated
formula_of s g f None e p h = (let P : Option Rule → Type 0 = λ z. MatchOption z (f ≡ rank.NoGenerated) (λ r. IsFaultOfFormula g s.channels s.classes r f) in subst P e h)
formula_of s g f (Some r) e p h =
    let P : Option Rule → Type 0 = λ z. MatchOption z (f ≡ rank.NoGenerated) (λ r. IsFaultOfFormula g s.channels s.classes r f) in
    formula-fault g s.channels s.classes r f p (subst P e h)

formula_none : (s : Settings) (g : Grid) (k : Ranking) (f : RankFault) → f ≢ rank.Memory → HasRanks s g k → IsFormulaFault s g f → ⊥
formula_none s g k f p has h =
    let P : Option Rule → Type 0 = λ z. MatchOption z (f ≡ rank.NoGenerated) (λ r. IsFaultOfFormula g s.channels s.classes r f) in
    let bad : IsFaultOfFormula g s.channels s.classes has.routing f = subst P has.named h in
    let Q : RankFault → Type 0 = λ z. IsFaultOfFormula g s.channels s.classes has.routing z in
    no-formula-fault g s.channels s.classes has.routing k has.generated (subst Q (formula-fault g s.channels s.classes has.routing f p bad) bad)

module _ (a : Asked) where
  no_ranks_fault : (s t : Settings) (x y : Routes) (text : TextValue) (f : Fault) → is_memory f ≡ false → AsksForChecked a s x → AsksForRelation a t y → checked_ranks a ≡ Some text → RanksFault y text f → ⊥
  no_ranks_fault s t x y text f p h asks e bad =
      let P : Option TextValue → Type 0 = λ z. IfSome z (Accepts x) in
      let Q : Routes → Type 0 = λ z. RanksFault z text f in
      accepts_none x text f p (subst P e h.accepted) (subst Q (sym (one_relation_asked a s t x y h.relation asks).1) bad)

  no_packets_fault : (net : Setup) (t : Settings) (y : Routes) (f : Fault) → is_memory f ≡ false → Opens a net → AsksForRelation a t y → PacketsFault y a.traffic f → ⊥
  no_packets_fault net t y f p h asks bad =
      let Q : Routes → Type 0 = λ z. PacketsFault z a.traffic f in
      network_none h.routes h.settings.buffer a.traffic net f p h.network (subst Q (sym (one_relation_asked a h.settings t h.routes y h.before.relation asks).1) bad)

  no_network_fault : (s t : Settings) (x y : Routes) (net : Setup) (f : Fault) → is_memory f ≡ false → AsksForChecked a s x → AsksForChecked a t y → IsNetworkOf x s.buffer a.traffic net
      → PacketsFault y a.traffic f → ⊥
  no_network_fault s t x y net f p asks other u bad =
      let Q : Routes → Type 0 = λ z. PacketsFault z a.traffic f in
      network_none x s.buffer a.traffic net f p u (subst Q (sym (one_relation_asked a s t x y asks.relation other.relation).1) bad)

  -- no ranks are checked by a command that asks for ranks
  no_check : (text : TextValue) → a.command ≡ command.Ranks → checked_ranks a ≡ Some text → ⊥
  no_check text e h = (let never : None ≡ Some text = sym (unchecked-ranks a.command a.ranks (ranked a.command e)) ∙ h in cc never)

  no_run : a.command ≡ command.Ranks → runs a.command ≡ true → ⊥
  no_run e h = false≢true (sym (still-ranks a.command (ranked a.command e)) ∙ h)

  -- no ranks are checked by a trace
  no_trace : (text : TextValue) → kind a.command ≡ 4 → checked_ranks a ≡ Some text → ⊥
  no_trace text e h = (let never : None ≡ Some text = sym (unchecked-trace a.command a.ranks e) ∙ h in cc never)

  -- the networks of a traffic text have the same packets
  same_packets : (x y : Routes) (s t : Settings) (m n : Setup) → IsNetworkOf x s.buffer a.traffic m → IsNetworkOf y t.buffer a.traffic n → m.packets ≡ n.packets
  same_packets x y s t m n h u = (let both : Ok m.packets ≡ Ok n.packets = sym h.packets ∙ u.packets in cc)

  no_missing_packet : (x y : Routes) (s t : Settings) (m n : Setup) (f : OptionFault) → IsNetworkOf x s.buffer a.traffic m → IsNetworkOf y t.buffer a.traffic n
      → packet_option_fault a.command (length m.packets) ≡ None → packet_option_fault a.command (length n.packets) ≡ Some f → ⊥
  no_missing_packet x y s t m n f h u none bad =
      let never : None ≡ Some f = sym none ∙ ap (λ (ps : List Packet). packet_option_fault a.command (length ps)) (same_packets x y s t m n h u) ∙ bad in
      cc never

  -- a network that is asked for has no fault
  open_none : (net : Setup) (f : Fault) → is_memory f ≡ false → (a.command ≡ command.Ranks → ⊥) → Opens a net → packet_option_fault a.command (length net.packets) ≡ None → TextsFault a f → ⊥
  open_none net f p other h none (no_packet {s = t} {routes = y} {net = n} {f = i} x u bad) = no_missing_packet h.routes y h.settings t net n i h.network u none bad
  open_none net f p other h none (in_settings bad) = no_settings_fault a h.settings h.routes f p h.before.relation bad
  open_none net f p other h none (in_formula e x bad) = other e
  open_none net f p other h none (in_ranks {s = t} {routes = y} {text = text} x e bad) = no_ranks_fault h.settings t h.routes y text f p h.before x e bad
  open_none net f p other h none (in_packets {s = t} {routes = y} e x bad) = no_packets_fault net t y f p h x.relation bad

  text_none : (text : List ℕ) (status : Status) (f : Fault) → is_memory f ≡ false → AsksFor a text status → TextsFault a f → ⊥
  text_none text status f p (a_report {report = m} {run = u} e x) bad = open_none u.net f p (λ d. omega (arith, reports a.command m e, ranked a.command d)) x.opens (has_no_packet a.command (length u.net.packets) (λ d. omega (arith, reports a.command m e, d))) bad
  text_none text status f p (findings {cycle = c} {router = n} {run = u} e x) bad = open_none u.net f p (λ d. omega (arith, explains a.command c n e, ranked a.command d)) x.opens (has_no_packet a.command (length u.net.packets) (λ d. omega (arith, explains a.command c n e, d))) bad
  text_none text status f p (traces {from = b} {to = c} {traced = t} {run = u} e x none) bad = open_none u.net f p (λ d. omega (arith, is_trace a.command b c t e, ranked a.command d)) x.opens none bad
  text_none text status f p (accepted {s = s} {routes = x} e h) (in_settings bad) = no_settings_fault a s x f p h.relation bad
  text_none text status f p (accepted e h) (in_formula d x bad) = omega (arith, checks a.command e, ranked a.command d)
  text_none text status f p (accepted {s = s} {routes = x} e h) (in_ranks {s = t} {routes = y} {text = given} asks d bad) = no_ranks_fault s t x y given f p h asks d bad
  text_none text status f p (accepted e h) (no_packet {net = n} {f = i} x u bad) = omega (arith, checks a.command e, has_packet a.command (length n.packets) i bad)
  text_none text status f p (accepted e h) (in_packets d x bad) = false≢true (sym (still-check a.command (checks a.command e)) ∙ d)
  text_none text status f p (ranks {s = s} {routes = x} e h has) (in_settings bad) = no_settings_fault a s x f p h bad
  text_none text status f p (ranks {s = s} {routes = x} {ranking = k} e h has) (in_formula {s = t} {routes = y} {f = i} d asks bad) =
      let same = one_relation_asked a t s y x asks h in
      let P : Settings → Type 0 = λ z. IsFormulaFault z y.grid i in
      let Q : Routes → Type 0 = λ z. IsFormulaFault s z.grid i in
      formula_none s x.grid k i (not_memory i y.grid p) has (subst Q same.1 (subst P same.0 bad))
  text_none text status f p (ranks e h has) (in_ranks {text = given} asks d bad) = no_check given e d
  text_none text status f p (ranks e h has) (no_packet {net = n} {f = i} x u bad) = omega (arith, ranked a.command e, has_packet a.command (length n.packets) i bad)
  text_none text status f p (ranks e h has) (in_packets d x bad) = no_run e d

  one_texts_fault : (f k : Fault) → is_memory f ≡ false → is_memory k ≡ false → TextsFault a f → TextsFault a k → f ≡ k
  one_texts_fault f k p q (in_settings x) (in_settings y) = one_settings_fault a f k p q x y
  one_texts_fault f k p q (in_settings x) (in_formula {s = s} {routes = m} e asks y) = absurd (no_settings_fault a s m f p asks x)
  one_texts_fault f k p q (in_settings x) (in_ranks {s = s} {routes = m} asks e y) = absurd (no_settings_fault a s m f p asks x)
  one_texts_fault f k p q (in_settings x) (in_packets {s = s} {routes = m} e asks y) = absurd (no_settings_fault a s m f p asks.relation x)
  one_texts_fault f k p q (in_formula {s = s} {routes = m} e asks y) (in_settings x) = absurd (no_settings_fault a s m k q asks x)
  one_texts_fault f k p q (in_formula {s = s} {routes = m} {f = i} e asks x) (in_formula {s = t} {routes = n} {f = j} d other y) =
      let same = one_relation_asked a s t m n asks other in
      let faults : i ≡ j = formula_of s m.grid i (rule_named s.rule) refl (not_memory i m.grid p) x ∙ sym (formula_of t n.grid j (rule_named t.rule) refl (not_memory j n.grid q) y) in
      ap (λ z. fault.Rank z m.grid) faults ∙ ap (λ (z : Routes). fault.Rank j z.grid) same.1
  one_texts_fault f k p q (in_formula e asks y) (in_ranks {text = given} other d x) = absurd (no_check given e d)
  one_texts_fault f k p q (in_formula e asks y) (in_packets d other x) = absurd (no_run e d)
  one_texts_fault f k p q (in_ranks {s = s} {routes = m} asks e y) (in_settings x) = absurd (no_settings_fault a s m k q asks x)
  one_texts_fault f k p q (in_ranks {text = given} other d x) (in_formula e asks y) = absurd (no_check given e d)
  one_texts_fault f k p q (in_ranks {s = s} {routes = m} {text = u} asks e x) (in_ranks {s = t} {routes = n} {text = v} other d y) =
      let same = one_relation_asked a t s n m other asks in
      let both : Some v ≡ Some u = sym d ∙ e in
      let text : v ≡ u = cc in
      let P : TextValue → Type 0 = λ z. RanksFault n z k in
      let Q : Routes → Type 0 = λ z. RanksFault z u k in
      one_ranks_fault m u f k asks.relation.built.table.grid p q x (subst Q same.1 (subst P text y))
  one_texts_fault f k p q (in_ranks {s = t} {routes = y} {text = given} asks e bad) (in_packets {s = s} {routes = x} d h worse) = absurd (no_ranks_fault s t x y given f p h asks e bad)
  one_texts_fault f k p q (in_packets {s = s} {routes = m} e asks y) (in_settings x) = absurd (no_settings_fault a s m k q asks.relation x)
  one_texts_fault f k p q (in_packets d other x) (in_formula e asks y) = absurd (no_run e d)
  one_texts_fault f k p q (in_packets {s = s} {routes = x} d h worse) (in_ranks {s = t} {routes = y} {text = given} asks e bad) = absurd (no_ranks_fault s t x y given k q h asks e bad)
  one_texts_fault f k p q (in_packets {s = s} {routes = m} e asks x) (in_packets {s = t} {routes = n} d other y) =
      let same = one_relation_asked a t s n m other.relation asks.relation in
      let Q : Routes → Type 0 = λ z. PacketsFault z a.traffic k in
      one_packets_fault m a.traffic f k p q x (subst Q same.1 y)
  one_texts_fault f k p q (no_packet {s = s} {routes = m} asks u bad) (in_settings x) = absurd (no_settings_fault a s m k q asks.relation x)
  one_texts_fault f k p q (in_settings x) (no_packet {s = s} {routes = m} asks u bad) = absurd (no_settings_fault a s m f p asks.relation x)
  one_texts_fault f k p q (no_packet {net = n} {f = i} asks u bad) (in_formula e other x) = absurd (omega (arith, ranked a.command e, has_packet a.command (length n.packets) i bad))
  one_texts_fault f k p q (in_formula e other x) (no_packet {net = n} {f = i} asks u bad) = absurd (omega (arith, ranked a.command e, has_packet a.command (length n.packets) i bad))
  one_texts_fault f k p q (no_packet {net = n} {f = i} asks u bad) (in_ranks {text = given} other e x) = absurd (no_trace given (has_packet a.command (length n.packets) i bad) e)
  one_texts_fault f k p q (in_ranks {text = given} other e x) (no_packet {net = n} {f = i} asks u bad) = absurd (no_trace given (has_packet a.command (length n.packets) i bad) e)
  one_texts_fault f k p q (no_packet {s = s} {routes = m} {net = n} asks u bad) (in_packets {s = t} {routes = y} e other x) = absurd (no_network_fault s t m y n k q asks other u x)
  one_texts_fault f k p q (in_packets {s = t} {routes = y} e other x) (no_packet {s = s} {routes = m} {net = n} asks u bad) = absurd (no_network_fault s t m y n f p asks other u x)
  one_texts_fault f k p q (no_packet {s = s} {routes = m} {net = n} {f = i} asks u bad) (no_packet {s = t} {routes = y} {net = o} {f = j} other v worse) =
      let both : Some i ≡ Some j = sym bad ∙ ap (λ (ps : List Packet). packet_option_fault a.command (length ps)) (same_packets m y s t n o u v) ∙ worse in
      let same : i ≡ j = cc in
      ap fault.Option same

-- ---- a request has a text or a fault

either_way : (n : ℕ) (b : Bool) → (if b then n else n) ≡ n
either_way n true = refl
either_way n false = refl

-- no line of dashes begins past the end of a text
no_line_past : (text : List ℕ) (i : ℕ) → length text ≤ i → line_at text i ≡ 0
no_line_past text i past =
    let P : List ℕ → Type 0 = λ rest. (if (i == 0 || slice_index text (i - 1) == 10) then line_len rest else 0) ≡ 0 in
    let none : drop i text ≡ [] = drop_all i text past in
    subst P (sym none) (either_way 0 (i == 0 || slice_index text (i - 1) == 10))

-- a text has no dividing line, or one
no_split : (text front rest : List ℕ) (i : ℕ) → ((j : ℕ) → j < length text → line_at text j ≡ 0) → SplitsAt text i front rest → ⊥
no_split text front rest i none s =
    elim (cases_lt i (length text)) [
      | inl inside ↦ (let e = none i inside in omega (arith, e, s.line))
      | inr past ↦ (let e = no_line_past text i past in omega (arith, e, s.line))
    ]

no_reading_unread : (r : Request) (f : InputFault) (a : Asked) → is_joined r.command ≡ true → owned_text r.config ≡ Err f → ReadsAs r a → ⊥
no_reading_unread r f a e h (as_files d) = false≢true (sym d ∙ e)
no_reading_unread r f a e h (as_joined {text = t} d x s) = (let never : Ok t ≡ Err f = sym x ∙ h in cc never)

no_reading_unsplit : (r : Request) (text : List ℕ) (a : Asked) → is_joined r.command ≡ true → owned_text r.config ≡ Ok text → ((i : ℕ) → i < length text → line_at text i ≡ 0) → ReadsAs r a → ⊥
no_reading_unsplit r text a e h none (as_files d) = false≢true (sym d ∙ e)
no_reading_unsplit r text a e h none (as_joined {text = t} {config = c} {traffic = q} {i = i} d x s) =
    let both : Ok t ≡ Ok text = sym x ∙ h in
    let same : t ≡ text = cc in
    let P : List ℕ → Type 0 = λ w. SplitsAt w i c q in
    no_split text c q i none (subst P same s)

no_fault_asked : (r : Request) (text : List ℕ) (status : Status) (f : Fault) → is_memory f ≡ false → Asks r text status → FirstFault r f → ⊥
no_fault_asked r text status f p x (unread {f = i} e h) = no_reading_unread r i x.0 e h x.1
no_fault_asked r text status f p x (unsplit {text = t} e h none) = no_reading_unsplit r t x.0 e h none x.1
no_fault_asked r text status f p x (in_texts {a = a} reads bad) =
    let P : Asked → Type 0 = λ z. TextsFault z f in
    text_none x.0 text status f p x.2 (subst P (one_reading r a x.0 reads x.1) bad)

pub text_or_fault : (r : Request) (text : List ℕ) (status : Status) (f : Fault) → Asks r text status → FirstFault r f → is_memory f ≡ true
text_or_fault r text status f x h = at (is_memory f) refl
  where
    at : (b : Bool) → is_memory f ≡ b → is_memory f ≡ true
    at true e = e
    at false e = absurd (no_fault_asked r text status f e x h)

pub one_first_fault : (r : Request) (f k : Fault) → is_memory f ≡ false → is_memory k ≡ false → FirstFault r f → FirstFault r k → f ≡ k
one_first_fault r f k p q (unread {f = i} e h) (unread {f = j} d u) = (let both : Err i ≡ Err j = sym h ∙ u in cc)
one_first_fault r f k p q (unread {f = i} e h) (unsplit {text = t} d u none) = (let never : Err i ≡ Ok t = sym h ∙ u in absurd (cc never))
one_first_fault r f k p q (unread {f = i} e h) (in_texts {a = a} reads bad) = absurd (no_reading_unread r i a e h reads)
one_first_fault r f k p q (unsplit {text = t} d u none) (unread {f = i} e h) = (let never : Err i ≡ Ok t = sym h ∙ u in absurd (cc never))
one_first_fault r f k p q (unsplit d u none) (unsplit e h other) = refl
one_first_fault r f k p q (unsplit {text = t} d u none) (in_texts {a = a} reads bad) = absurd (no_reading_unsplit r t a d u none reads)
one_first_fault r f k p q (in_texts {a = a} reads bad) (unread {f = i} e h) = absurd (no_reading_unread r i a e h reads)
one_first_fault r f k p q (in_texts {a = a} reads bad) (unsplit {text = t} d u none) = absurd (no_reading_unsplit r t a d u none reads)
one_first_fault r f k p q (in_texts {a = a} reads bad) (in_texts {a = b} other worse) =
    let P : Asked → Type 0 = λ z. TextsFault z k in
    one_texts_fault a f k p q bad (subst P (one_reading r b a other reads) worse)
