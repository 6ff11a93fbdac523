-- The plan of a CFG's lines: the kinds of their plain paragraphs and the pages of their PAGE lines (01, What a CFG may say).
use Rattle.std.specs.Prelude.{suc, ◌+◌, ◌*◌, List}
use Rattle.places.specs.Limits.{chapter_paragraphs}
use Rattle.lines.specs.declared.Line.{Line}
use Rattle.rules.specs.Chapters.{uses, kind_at}
use Rattle.plan.specs.Plan.{Plan}

abbrev pub plan_of : List Line → Plan
plan_of lines x = record { kind = λ k. kind_at lines (chapter_paragraphs * x + k); page = λ y. uses lines x (suc y) }
