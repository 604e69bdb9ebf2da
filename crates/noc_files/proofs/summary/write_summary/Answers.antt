use Rattle.noc_files.proofs.summary.write_summary.Goals as goal

pub returns : goal.returns
returns g c = rw (c.text.ensures.value, c.fill_summary.ensures, c.summary_of.ensures) at c.put_all.ensures
