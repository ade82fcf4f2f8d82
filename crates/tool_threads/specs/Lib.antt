pub use Rattle.tool_words.specs.CommandWords
pub use Rattle.command_walks.specs.Outcome
pub use Rattle.file_tools.specs.ToolWalk
