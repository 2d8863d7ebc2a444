use Rattle.scan.proofs.lines.Lines.after.Goals as goal

pub within_end-requires : goal.within_end-requires
within_end-requires c = c.requires

pub line_at-requires : goal.line_at-requires
line_at-requires c = (c.requires, c.within_end.ensures.1)

pub returns-in-Keep : goal.returns-in-Keep
returns-in-Keep c = rw (c.lines_of.ensures, c.in-Keep.is)

pub returns-in-Deeper : goal.returns-in-Deeper
returns-in-Deeper c = rw (c.lines_of-in-Deeper.ensures, c.in-Deeper.is)

pub returns-in-Shallower : goal.returns-in-Shallower
returns-in-Shallower c = rw (c.lines_of-in-Shallower.ensures, c.in-Shallower.is)

pub returns-in-Open : goal.returns-in-Open
returns-in-Open c = rw (c.lines_of-in-Open.ensures, c.in-Open.is)

pub returns-in-PrefixBegins : goal.returns-in-PrefixBegins
returns-in-PrefixBegins c = rw (c.lines_of-in-PrefixBegins.ensures, c.in-PrefixBegins.is)

pub returns-in-PrefixGoesOn : goal.returns-in-PrefixGoesOn
returns-in-PrefixGoesOn c = rw (c.lines_of-in-PrefixGoesOn.ensures, c.in-PrefixGoesOn.is)

pub returns-in-PrefixEnds : goal.returns-in-PrefixEnds
returns-in-PrefixEnds c = rw (c.lines_of-in-PrefixEnds.ensures, c.in-PrefixEnds.is)

pub returns-in-PrefixInTab : goal.returns-in-PrefixInTab
returns-in-PrefixInTab c = rw (c.lines_of-in-PrefixInTab.ensures, c.in-PrefixInTab.is)

pub returns-in-Quote : goal.returns-in-Quote
returns-in-Quote c = rw (c.lines_of-in-Quote.ensures, c.in-Quote.is)

pub returns-in-Return : goal.returns-in-Return
returns-in-Return c = rw (c.lines_of-in-Return.ensures, c.in-Return.is)

pub returns-in-Save : goal.returns-in-Save
returns-in-Save c = rw (c.lines_of-in-Save.ensures, c.in-Save.is)

pub returns-in-Restore : goal.returns-in-Restore
returns-in-Restore c = rw (c.lines_of-in-Restore.ensures, c.in-Restore.is)

pub returns-in-Last : goal.returns-in-Last
returns-in-Last c = rw (c.lines_of-in-Last.ensures, c.in-Last.is)

pub returns-in-Fault : goal.returns-in-Fault
returns-in-Fault c = rw (c.lines_of-in-Fault.ensures, c.line_at.ensures, c.within_end.ensures.0, c.in-Fault.is)

pub returns-in-Refuse : goal.returns-in-Refuse
returns-in-Refuse c = rw (c.lines_of-in-Refuse.ensures, c.in-Refuse.is)
