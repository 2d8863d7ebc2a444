-- The registers of a tokenizer: all of them at rest, and one of them set. In the Rust they are fields of the tokenizer's state: `ok` of an
-- attempt, `size`, `size_c`, `marker`, `mdx_last_parse_error`, the message, `progress` of a check, `start`.
use Rattle.std.specs.Prelude.{ℕ}
use Rattle.tokenizer.specs.declared.Regs.{Regs}

-- before the first step. 0 stands for none: no state to return to, no verdict, no line prefix
abbrev pub no_regs : Regs
no_regs = record { back = 0; depth = 0; prefix = 0; quote = 0; last = 0; site = 0; note = 0; saved = 0; body = 0; joint = 0; fault = 0 }

-- the state that white space or an expression returns to
abbrev pub with_back : ℕ → Regs → Regs
with_back n r = record { back = n; depth = r.depth; prefix = r.prefix; quote = r.quote; last = r.last; site = r.site; note = r.note; saved = r.saved; body = r.body; joint = r.joint; fault = r.fault }

-- how many braces are open
abbrev pub with_depth : ℕ → Regs → Regs
with_depth n r = record { back = r.back; depth = n; prefix = r.prefix; quote = r.quote; last = r.last; site = r.site; note = r.note; saved = r.saved; body = r.body; joint = r.joint; fault = r.fault }

-- how many columns of the line prefix are passed
abbrev pub with_prefix : ℕ → Regs → Regs
with_prefix n r = record { back = r.back; depth = r.depth; prefix = n; quote = r.quote; last = r.last; site = r.site; note = r.note; saved = r.saved; body = r.body; joint = r.joint; fault = r.fault }

-- the quote that a value ends with
abbrev pub with_quote : ℕ → Regs → Regs
with_quote n r = record { back = r.back; depth = r.depth; prefix = r.prefix; quote = n; last = r.last; site = r.site; note = r.note; saved = r.saved; body = r.body; joint = r.joint; fault = r.fault }

-- the number of the last unfinished verdict, or of the verdict that ended the scan
abbrev pub with_last : ℕ → Regs → Regs
with_last n r = record { back = r.back; depth = r.depth; prefix = r.prefix; quote = r.quote; last = n; site = r.site; note = r.note; saved = r.saved; body = r.body; joint = r.joint; fault = r.fault }

-- the where-number of a refusal
abbrev pub with_site : ℕ → Regs → Regs
with_site n r = record { back = r.back; depth = r.depth; prefix = r.prefix; quote = r.quote; last = r.last; site = n; note = r.note; saved = r.saved; body = r.body; joint = r.joint; fault = r.fault }

-- its note
abbrev pub with_note : ℕ → Regs → Regs
with_note n r = record { back = r.back; depth = r.depth; prefix = r.prefix; quote = r.quote; last = r.last; site = r.site; note = n; saved = r.saved; body = r.body; joint = r.joint; fault = r.fault }

-- the place that a look-ahead goes back to
abbrev pub with_saved : ℕ → Regs → Regs
with_saved n r = record { back = r.back; depth = r.depth; prefix = r.prefix; quote = r.quote; last = r.last; site = r.site; note = r.note; saved = n; body = r.body; joint = r.joint; fault = r.fault }

-- where the expression's body begins
abbrev pub with_body : ℕ → Regs → Regs
with_body n r = record { back = r.back; depth = r.depth; prefix = r.prefix; quote = r.quote; last = r.last; site = r.site; note = r.note; saved = r.saved; body = n; joint = r.joint; fault = r.fault }

-- where its first line prefix does
abbrev pub with_joint : ℕ → Regs → Regs
with_joint n r = record { back = r.back; depth = r.depth; prefix = r.prefix; quote = r.quote; last = r.last; site = r.site; note = r.note; saved = r.saved; body = r.body; joint = n; fault = r.fault }

-- where the verdict that ended the scan found fault
abbrev pub with_fault : ℕ → Regs → Regs
with_fault n r = record { back = r.back; depth = r.depth; prefix = r.prefix; quote = r.quote; last = r.last; site = r.site; note = r.note; saved = r.saved; body = r.body; joint = r.joint; fault = n }
