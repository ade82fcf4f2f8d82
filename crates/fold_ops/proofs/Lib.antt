pub mod FoldOfLaws
