use Rattle.std.proofs.Common.{◌≡◌, ◌∙◌, sym, true, false}
use Rattle.toml.specs.View.{table_view}
use Rattle.noc_files.specs.Configuration.{all_known}
use Rattle.noc_files.proofs.KeyLemmas.{all_known_keys}
use Rattle.noc_files.proofs.configuration.read_config.Goals as goal

pub returns-then-not-has_known_keys-clause-value : goal.returns-then-not-has_known_keys-clause-value
returns-then-not-has_known_keys-clause-value c _ =
    let known : all_known (table_view c.in_ok-table.table) ≡ false = sym (all_known_keys c.in_ok-table.table.entries) ∙ sym c.has_known_keys.ensures ∙ c.if-not-has_known_keys.true in
    rw (c.in_ok-table.ensures, known)

pub returns-clause-value : goal.returns-clause-value
returns-clause-value c =
    let known : all_known (table_view c.in_ok-table.table) ≡ true = sym (all_known_keys c.in_ok-table.table.entries) ∙ sym c.has_known_keys.ensures ∙ c.if-not-has_known_keys.false in
    rw (c.in_ok-table.ensures, known) c.settings_in.ensures.value
