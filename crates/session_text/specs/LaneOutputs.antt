-- What is printed of a script's run as lanes.
use Rattle.std.specs.Prelude.{◌≡◌, ℕ, ◌-◌, List, [], ◌++◌, length}
use Rattle.seq_model.specs.declared.event.Event.{Event}
use Rattle.session_text.specs.declared.run.ScriptRun.{ScriptRun}
use Rattle.session_text.specs.Scripts.{world_in}
use Rattle.session_text.specs.TracePrints.{trace_text}
use Rattle.text_formats.specs.declared.script.Script.{Script}
use Rattle.session_text.specs.declared.layout.Layout.{Layout}
use Rattle.session_text.specs.declared.rows.Row.{Row}
use Rattle.session_text.specs.Lanes.{lanes_text}
use Rattle.session_text.specs.Rows.{AreRowsOf, first_of}

-- a text has grown by lanes of these rows, and by how many events more there were
pub record AreLanes (rows : List Row) (more : ℕ) (before after : List ℕ) : Type 0 where
  pub layout : Layout
  pub printed : after ≡ before ++ lanes_text layout rows more

-- a row for each of the first events, with what it answers in the world that the script opens; and what the run leaves
pub record IsLanesOf (script : Script) (run : ScriptRun) (es : List (Event ℕ)) (text : List ℕ) : Type 0 where
  pub rows : List Row
  pub lanes : List ℕ
  pub are : AreRowsOf (world_in script run.opening) (first_of es) rows
  pub drawn : AreLanes rows (length es - length rows) [] lanes
  pub printed : text ≡ lanes ++ trace_text run.trace
