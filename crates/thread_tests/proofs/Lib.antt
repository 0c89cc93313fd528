mod Before
mod InTurn
