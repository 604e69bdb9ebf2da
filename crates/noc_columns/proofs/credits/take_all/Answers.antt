use Rattle.std.proofs.Common.{◌≡◌, ◌≢◌, ℕ, ◌*◌, ◌<◌, ◌∙◌, arith, ap, ap₂, sym, subst, List, bit_xor, set, inl, inr}
use Rattle.std.proofs.lemmas.List.{length-set}
use Rattle.std.proofs.lemmas.Bool.{cases_eq}
use Rattle.noc_packet.specs.Set.{has_bit}
use Rattle.noc_sets.specs.Planes.{any_from, raised_by, wrong_from}
use Rattle.noc_sets.specs.Sets.{less}
use Rattle.noc_sets.specs.Unions.{some_below}
use Rattle.noc_columns.specs.Channels.{outputs_by, returned_by}
use Rattle.noc_columns.specs.Planes.{list_of}
use Rattle.noc_columns.specs.Words.{word}
use Rattle.noc_columns.specs.declared.channels.Outputs.{Outputs}
use Rattle.noc_columns.specs.declared.channels.Returned.{Returned}
use Rattle.noc_columns.proofs.PassLemmas.{union-next, word-here, word-other}
use Rattle.noc_columns.proofs.StepLemmas.{IsCredited, along-credited, credited, takes-credits}
use Rattle.noc_columns.proofs.credits.take_all.Goals as goal

pub loop-i-preserved : goal.loop-i-preserved
loop-i-preserved c =
    let i = c.loop-i.i in
    let inv = c.loop-i.invariant in
    let deep = c.args.deep in
    let few : i < 72 = omega arith in
    let old = outputs_by (word i) c.args.outputs.now in
    let now = inv.left i (omega arith) in
    let came = word i c.args.came.now in
    let credit : list_of deep c.at.result ≡ list_of deep old.credit = ap (list_of deep) (c.at.ensures ∙ ap (λ o. o.credit) now) in
    let again : list_of deep c.at-in-loop-i.result ≡ list_of deep old.credit = ap (list_of deep) (c.at-in-loop-i.ensures ∙ ap (λ o. o.credit) now) in
    let raised : list_of deep c.raised-credit.result ≡ raised_by (list_of deep old.credit) came = c.raised-credit.ensures ∙ ap (λ l. raised_by l came) credit in
    let home : c.less-home.result ≡ less old.draining (wrong_from 0 (raised_by (list_of deep old.credit) came) (list_of deep c.args.frame.now.places)) =
    c.less-home.ensures ∙ ap₂ less (ap (λ o. o.draining) now) (c.other_than.ensures ∙ ap (λ l. wrong_from 0 l (list_of deep c.args.frame.now.places)) raised) in
    let outputs : Outputs (List ℕ) = record { draining = set c.loop-i.outputs.draining i (bit_xor (word i c.loop-i.outputs.draining) c.less-home.result); credit = c.put.new.self } in
    let returned : Returned (List ℕ) = record { some = set c.loop-i.returned.some i c.some.result; home = set c.loop-i.returned.home i c.less-home.result } in
    let kept = λ (k : ℕ) (other : k ≢ i). word-other c.loop-i.returned.home i c.less-home.result k other in
    record {
      draining_size = length-set c.loop-i.outputs.draining i _ ∙ inv.draining_size;
      some_size = length-set c.loop-i.returned.some i _ ∙ inv.some_size;
      home_size = length-set c.loop-i.returned.home i _ ∙ inv.home_size;
      done = λ k l. elim (cases_eq k i) [
        | inl same ↦ subst (λ j. IsCredited deep (list_of deep c.args.frame.now.places) (word j c.args.came.now) (outputs_by (word j) c.args.outputs.now) (outputs_by (word j) outputs) (returned_by (word j) returned)) (sym same)
            (record {
              credit = c.put.ensures.here ∙ raised;
              home = word-here c.loop-i.returned.home i _ inv.home_size few ∙ home;
              draining = word-here c.loop-i.outputs.draining i _ inv.draining_size few ∙ ap₂ bit_xor (ap (λ o. o.draining) now) home;
              some = word-here c.loop-i.returned.some i _ inv.some_size few ∙ c.some.ensures ∙ ap (any_from came) again;
            })
        | inr other ↦ along-credited (word-other c.loop-i.outputs.draining i _ k other) (c.put.ensures.others k other) (word-other c.loop-i.returned.some i _ k other) (kept k other) (inv.done k (omega arith))
      ];
      left = λ k l. let other : k ≢ i = omega arith in ap₂ (λ d p. record { draining = d; credit = p }) (word-other c.loop-i.outputs.draining i _ k other) (c.put.ensures.others k other) ∙ inv.left k (omega arith);
      back = λ r. union-next c.loop-i.back c.less-home.result i r _ _ (inv.back r) (λ k l. kept k (omega arith)) (word-here c.loop-i.returned.home i _ inv.home_size few);
    }

pub returns-clause-credits : goal.returns-clause-credits
returns-clause-credits c = λ n r within.
    takes-credits _ _ _ _ _ _ (credited c.args.deep c.args.frame.now.places c.args.came.now c.args.outputs.now c.loop-i.outputs c.loop-i.returned n r (λ k few. c.loop-i.invariant.done (n.index k) (let here = within k few in omega (arith, here))))

pub returns-clause-home : goal.returns-clause-home
returns-clause-home c = λ r. let e : c.loop-i.i ≡ 4 * c.args.frame.now.link_groups = omega arith in c.loop-i.invariant.back r ∙ ap (λ m. some_below m (λ k. has_bit (word k c.loop-i.returned.home) r)) e
