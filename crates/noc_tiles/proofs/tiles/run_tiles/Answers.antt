use Rattle.std.proofs.Common.{rules, arith, ℕ, ◌≡◌, ◌+◌, ◌<◌, false, Result, Ok, Err, IfErr, IfOk, IsOk, ap, sym, ◌∙◌, refl, Vec, Global}
use Rattle.std.proofs.lemmas.Bool.{false≢true}
use Rattle.noc_net.specs.declared.workers.RunFault.{RunFault}
use Rattle.noc_net.specs.declared.workers.RunFault.TheVariants.{LostWorker}
use Rattle.noc_view.specs.View.{View}
use Rattle.noc_theory.specs.Network.{Run}
use Rattle.noc_tiles.specs.Partition.{IsToCut}
use Rattle.noc_tiles.specs.declared.partition.Kept.{Kept}
use Rattle.noc_tiles.proofs.PartsLemmas.{parts-kept, parts-views}
use Rattle.noc_tiles.proofs.tiles.run_tiles.Goals as goal

-- what follows from what is known of a result
if-ok : {A E : Type 0} (P Q : Type 0) (result : Result A E) → (P → Q) → IfOk result (λ _. P) → IfOk result (λ _. Q)
if-ok P Q (Ok value) more known = more known
if-ok P Q (Err fault) more known = tt

if-err : {A E : Type 0} (P Q : E → Type 0) (result : Result A E) → ((fault : E) → P fault → Q fault) → IfErr result P → IfErr result Q
if-err P Q (Ok value) more known = tt
if-err P Q (Err fault) more known = more fault known

ok-if : {A E : Type 0} (P : E → Type 0) (result : Result A E) → ((fault : E) → P fault → ⊥) → IfErr result P → IsOk result
ok-if P (Ok value) never known = refl
ok-if P (Err fault) never known = absurd (never fault known)

pub returns-then-workers-eq1-clause-asked : goal.returns-then-workers-eq1-clause-asked
returns-then-workers-eq1-clause-asked g c =
    let one : c.args.workers ≡ 1 = search (rules, arith) in
    let shuts = g.G.Gate.shuts c.args.gate.now in
    let n = c.args.network.count in
    if-ok ((k : ℕ) → k < c.args.cycles → shuts 0 (n + k) ≡ false) ((worker k : ℕ) → worker < c.args.workers → k < c.args.cycles → shuts worker (n + k) ≡ false) c.run_single.result
    (λ asked worker k low within. (let first : worker ≡ 0 = omega (arith, one, low) in ap (λ w. shuts w (n + k)) first ∙ asked k within)) c.run_single.ensures.asked

pub returns-then-workers-eq1-clause-lost : goal.returns-then-workers-eq1-clause-lost
returns-then-workers-eq1-clause-lost g c =
    let opens = g.G.Gate.opens c.args.gate.now in
    if-err (λ (fault : RunFault). (fault ≡ LostWorker) × (opens ≡ false)) (λ (fault : RunFault). fault ≡ LostWorker → opens ≡ false) c.run_single.result (λ fault known lost. known.1) c.run_single.ensures.fault

pub returns-then-workers-eq1-clause-one : goal.returns-then-workers-eq1-clause-one
returns-then-workers-eq1-clause-one g c = λ one opened.
    let opens = g.G.Gate.opens c.args.gate.now in
    ok-if (λ (fault : RunFault). (fault ≡ LostWorker) × (opens ≡ false)) c.run_single.result (λ fault known. false≢true (sym known.1 ∙ opened)) c.run_single.ensures.fault

pub returns-then-workers-eq1-clause-one_fault : goal.returns-then-workers-eq1-clause-one_fault
returns-then-workers-eq1-clause-one_fault g c = λ one.
    let opens = g.G.Gate.opens c.args.gate.now in
    if-err (λ (fault : RunFault). (fault ≡ LostWorker) × (opens ≡ false)) (λ (fault : RunFault). fault ≡ LostWorker) c.run_single.result (λ fault known. known.0) c.run_single.ensures.fault

pub run_threads-requires-after_bounds : goal.run_threads-requires-after_bounds
run_threads-requires-after_bounds g c =
    let P = c.into_parts-parts in
    let rest = c.replace-routers.new.dest in
    let f : Kept = record { parts = record P.result { routers = rest }; cycles = c.args.cycles; workers = c.args.workers } in
    let whole : IsToCut f c.replace-routers.result.items = record {
      can = parts-kept P.result P.ensures.parts rest c.args.network P.ensures.network c.args.cycles c.args.workers (c.requires.workers.0, c.requires.workers.1, c.requires.end);
      views = ap (λ (v : Vec View Global). v.items) c.replace-routers.ensures.value ∙ parts-views P.result P.ensures.parts;
    } in
    search rules

pub network_of-requires-clause-kept : goal.network_of-requires-clause-kept
network_of-requires-clause-kept g c =
    let P = c.into_parts-parts in
    parts-kept P.result P.ensures.parts c.replace-routers.new.dest c.args.network P.ensures.network c.args.cycles c.args.workers (c.requires.workers.0, c.requires.workers.1, c.requires.end)

pub returns-in-Ok-clause-asked : goal.returns-in-Ok-clause-asked
returns-in-Ok-clause-asked g c = λ worker k low within.
    let count = ap (λ (u : Run). u.count) c.into_parts-parts.ensures.network in
    sym (ap (λ n. g.G.Gate.shuts c.args.gate.now worker (n + k)) count) ∙ c.in-Ok.ensures.asked worker k low within
